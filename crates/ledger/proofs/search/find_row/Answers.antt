-- A turn of the loop passes one row over, or ends at the first one that has the UTI.
use Rattle.std.proofs.Common.{◌≡◌, ◌∙◌, sym, true, false, arith}
use Rattle.std.proofs.Math.Nat.{sub-zero}
use Rattle.octets.proofs.SearchLaws.{first_more, first_stop, first_end}
use Rattle.ledger.specs.Rows.{row_at, holds_uti, place_in}
use Rattle.ledger.proofs.search.find_row.Goals as goal

pub loop-k-init : goal.loop-k-init
unfolding place_in
loop-k-init c = rw sub-zero

pub loop-k-preserved : goal.loop-k-preserved
loop-k-preserved c =
    let other : holds_uti c.args.uti.now (row_at c.args.l.now c.loop-k.k) ≡ false = cc in
    sym (first_more _ c.loop-k.k c.args.rows c.loop-k-test.true other) ∙ c.loop-k.invariant

pub returns-then-has_uti : goal.returns-then-has_uti
returns-then-has_uti c =
    let found : holds_uti c.args.uti.now (row_at c.args.l.now c.loop-k.k) ≡ true = cc in
    (c.loop-k-test.true, sym (first_stop _ c.loop-k.k c.args.rows c.loop-k-test.true found) ∙ c.loop-k.invariant)

pub returns : goal.returns
returns c =
    let all : c.loop-k.k ≡ c.args.rows = omega arith in
    sym c.loop-k.invariant ∙ (first_end _ c.loop-k.k c.args.rows c.loop-k-test.false ∙ all)
