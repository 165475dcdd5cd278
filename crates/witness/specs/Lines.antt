-- The tape of both histories, written by hand from the specification, section 7.
use Prim.Native.String.{String}
use Rattle.std.specs.Prelude.{List, [], ◌∷◌, ◌++◌}
use Rattle.octets.specs.Bytes.{Bytes}
use Rattle.octets.specs.Text.{text}
use Rattle.ledger.specs.Line.{newline}

-- the masked terms of the full messages
abbrev pub new_terms : String
new_terms = "2026-03-02T14:29:58Z2026-03-042031-03-04Y FTT-101.25             1USDIR0000000100000000 USDUS                        "

abbrev pub extended_terms : String
extended_terms = "2026-03-02T14:29:58Z2026-03-042033-03-04Y FTT-101.25             1USDIR0000000250000000+USDUS                        "

abbrev pub uncleared_terms : String
uncleared_terms = "2026-03-03T10:14:30Z2026-04-012027-04-01NTFFF                        CO0000000000001000 EUR                          "

abbrev pub corrected_terms : String
corrected_terms = "2026-03-03T10:14:03Z2026-04-012027-04-01NTFFF                        CO0000000000010000 EUR                          "

abbrev pub revived_terms : String
revived_terms = "2026-03-02T14:29:58Z2026-03-042031-03-04Y FTT                        IR0000000001000000 USDUS-101.25             1USD"

-- identifier, previous one, action, event and event time; terms; newline
unfoldable pub line_text : String → String → Bytes
line_text head terms = text head ++ (text terms ++ (newline ∷ []))

unfoldable pub lines : List (String × String) → Bytes
lines [] = []
lines (l ∷ ls) = line_text l.0 l.1 ++ lines ls

-- the quiet modification and PRTO, the last message, have no line
unfoldable pub tape_text : Bytes
tape_text =
    lines
    (("000000000001            NEWTTRAD2026-03-02T14:30:00Z", new_terms)
    ∷ ("000000000002000000000001MODITRAD2026-03-03T09:00:00Z", extended_terms)
    ∷ ("000000000003            NEWTTRAD2026-03-03T10:15:00Z", uncleared_terms)
    ∷ ("000000000004000000000003CORR    2026-03-03T16:20:00Z", corrected_terms)
    ∷ ("000000000005000000000004TERMETRM2026-03-03T17:45:00Z", corrected_terms)
    ∷ ("000000000006000000000002EROR    2026-03-04T08:00:00Z", extended_terms)
    ∷ ("000000000007000000000006REVI    2026-03-05T11:00:00Z", revived_terms)
    ∷ [])
