-- The place is the first that has the UTI among those from k on.
use Rattle.std.proofs.Common.{◌≡◌, ◌-◌}
use Rattle.octets.specs.Search.{first_from}
use Rattle.ledger.specs.Rows.{row_at, holds_uti, place_in}
use Rattle.ledger.proofs.search.find_row.Given as goal

abbrev pub invariant-loop-k : goal.invariant-loop-k
invariant-loop-k l = first_from (λ k. holds_uti l.uti (row_at l.l k)) l.k (l.rows - l.k) ≡ place_in l.l l.rows l.uti
