-- The place that was found is the swap's, since as many rows are searched as are in use.
use Rattle.std.proofs.Common.{◌≡◌, sym, ap, ◌∙◌, arith}
use Rattle.ledger.specs.Rows.{place_in, place_of}
use Rattle.ledger.proofs.SwapLaws.{swap_unknown, swap_known}
use Rattle.ledger.proofs.search.find_swap.Goals as goal

pub returns-in_default : goal.returns-in_default
returns-in_default c =
    let place : c.args.rows ≡ place_of c.args.l.now c.args.uti.now = sym c.in_default.ensures ∙ ap (λ n. place_in c.args.l.now n c.args.uti.now) c.requires.0 in
    swap_unknown _ _ _ place (omega arith)

pub returns : goal.returns
returns c =
    let place : c.in-Some.place ≡ place_of c.args.l.now c.args.uti.now = c.in-Some.ensures.1 ∙ ap (λ n. place_in c.args.l.now n c.args.uti.now) c.requires.0 in
    rw (c.status.ensures, c.identifier.ensures, c.row_at-row.ensures) (swap_known _ _ _ place (omega (arith, c.in-Some.ensures.0)))
