-- Two histories that differ in all that the tape does not show.
use Rattle.std.specs.Prelude.{ℕ, ◌+◌, List, [], ◌∷◌, replicate}
use Rattle.octets.specs.Bytes.{Bytes}
use Rattle.ledger.specs.declared.header.Caps.{Caps}
use Rattle.ledger.specs.Layout.{line_size, row_start}
use Rattle.submission.specs.Opening.{Limits, document_limits}
use Rattle.submission.specs.History.{Call, submit}
use Rattle.witness.specs.Messages.{Hidden, new_package_swap, extended_package_swap, repeated_package_swap, revived_package_swap, new_uncleared_swap, corrected_uncleared_swap, termination, in_error, porting}

abbrev pub limits : Limits
limits = document_limits

abbrev pub cap : ℕ
cap = 250_000_000

abbrev pub caps : Caps
caps = record { cr = cap; ir = cap; fx = cap; eq = cap; co = cap }

-- ---- the left history

abbrev pub north_rates : Hidden
north_rates =
    record {
      uti = "529900NORTHBANK00170IRS20260302000017";
      settlement = "2033-03-08";
      allocation = "UNAL";
      package_name = "Alpha7";
      quote = "-0101.250";
      counterparty1 = "529900NORTHBANK00170";
      counterparty2 = "213800NORTHFUND00170";
    }

-- what the quiet modification tells of the same swap
abbrev pub north_novated : Hidden
north_novated =
    record {
      uti = "529900NORTHBANK00170IRS20260302000017";
      settlement = "2033-04-01";
      allocation = "PREA";
      package_name = "Alpha9";
      quote = "-101.2500";
      counterparty1 = "529900NORTHBANK00170";
      counterparty2 = "549300NORTHGRAIN0150";
    }

abbrev pub north_grain : Hidden
north_grain =
    record {
      uti = "529900NORTHBANK00170GRAIN";
      settlement = "2027-04-01";
      allocation = "PREA";
      package_name = "Alpha8";
      quote = "3";
      counterparty1 = "549300NORTHGRAIN0150";
      counterparty2 = "529900NORTHBANK00170";
    }

-- a ledger of two rows
abbrev pub left_ledger : Bytes
left_ledger = replicate (row_start 2) 0

-- the third message is a quiet modification; the fourth is refused: the swap is known
unfoldable pub left : List Call
left =
    submit (new_package_swap north_rates "2026-03-02T14:30:05Z" "104999999") (record { tape = replicate line_size 0 })
    ∷ submit (extended_package_swap north_rates "2026-03-03T09:00:01Z" "250400000") (record { tape = replicate line_size 1 })
    ∷ submit (repeated_package_swap north_novated "2026-03-03T09:25:00Z" "99999999999.5") (record { tape = replicate line_size 2 })
    ∷ submit (new_package_swap north_rates "2026-03-03T09:30:00Z" "104999999") (record { tape = replicate (line_size + 1) 0 })
    ∷ submit (new_uncleared_swap north_grain "2026-03-03T10:16:00Z" "997.5") (record { tape = replicate (line_size + 4) 32 })
    ∷ submit (corrected_uncleared_swap north_grain "2026-03-03T16:20:30Z" "9950") (record { tape = replicate (line_size + 2) 48 })
    ∷ submit (termination north_grain "2026-03-03T17:46:00Z") (record { tape = replicate line_size 77 })
    ∷ submit (in_error north_rates "2026-03-04T08:00:00Z") (record { tape = replicate line_size 0 })
    ∷ submit (revived_package_swap north_rates "2026-03-05T11:00:00Z" "0995000.0") (record { tape = replicate (line_size + 8) 5 })
    ∷ submit (porting north_rates "2026-03-06T07:31:00Z") (record { tape = replicate line_size 3 })
    ∷ []

-- ---- the right history

abbrev pub south_rates : Hidden
south_rates =
    record {
      uti = "969500SOUTHBANK00122RATES000000000000000000000000042";
      settlement = "2034-01-05";
      allocation = "POST";
      package_name = "zeta";
      quote = "-101.25";
      counterparty1 = "894500SOUTHFUND00146";
      counterparty2 = "969500SOUTHBANK00122";
    }

abbrev pub south_novated : Hidden
south_novated =
    record {
      uti = "969500SOUTHBANK00122RATES000000000000000000000000042";
      settlement = "2033-03-04";
      allocation = "UNAL";
      package_name = "theta";
      quote = "-00101.25";
      counterparty1 = "724500SOUTHGRAIN0154";
      counterparty2 = "969500SOUTHBANK00122";
    }

abbrev pub south_grain : Hidden
south_grain =
    record {
      uti = "969500SOUTHBANK00122B";
      settlement = "2027-05-03";
      allocation = "UNAL";
      package_name = "eta";
      quote = "-17.5";
      counterparty1 = "969500SOUTHBANK00122";
      counterparty2 = "724500SOUTHGRAIN0154";
    }

-- a ledger of three rows, with bytes to spare
abbrev pub right_ledger : Bytes
right_ledger = replicate (row_start 3 + 56) 255

-- the third message is a quiet modification; the fourth is refused: the swap is not known yet
unfoldable pub right : List Call
right =
    submit (new_package_swap south_rates "2026-03-02T23:59:59Z" "99500000.00001") (record { tape = replicate (line_size + 54) 255 })
    ∷ submit (extended_package_swap south_rates "2026-03-03T12:00:00Z" "7000000000000000000") (record { tape = replicate (line_size + 3) 7 })
    ∷ submit (repeated_package_swap south_novated "2026-03-03T12:30:00Z" "250000001") (record { tape = replicate (line_size + 7) 4 })
    ∷ submit (termination south_grain "2026-03-03T17:45:10Z") (record { tape = replicate (line_size + 854) 43 })
    ∷ submit (new_uncleared_swap south_grain "2026-03-03T18:00:00Z" "1049.99999") (record { tape = replicate line_size 10 })
    ∷ submit (corrected_uncleared_swap south_grain "2026-03-03T18:05:00Z" "10499.99999") (record { tape = replicate (line_size + 1) 0 })
    ∷ submit (termination south_grain "2026-03-03T18:10:00Z") (record { tape = replicate (line_size + 33) 200 })
    ∷ submit (in_error south_rates "2026-03-05T00:00:00Z") (record { tape = replicate (line_size + 14) 9 })
    ∷ submit (revived_package_swap south_rates "2026-03-06T00:00:01Z" "1499999.99999") (record { tape = replicate line_size 66 })
    ∷ submit (porting south_rates "2026-03-07T12:00:00Z") (record { tape = replicate (line_size + 5) 1 })
    ∷ []
