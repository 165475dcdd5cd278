-- The blocks and the rest are the bytes.
use Rattle.std.proofs.Common.{◌≡◌, ◌/◌, rules, true, false, length, sym, ◌∙◌}
use borrow.Author.Tests.{tests}
use Rattle.std.specs.List.{list_all}
use Rattle.std.specs.Simd.{first_chunks}
use Rattle.std.proofs.lemmas.Iterator.{YieldsList-from_slice}
use Rattle.std.proofs.lemmas.Iterator.Search.{all_from_yields_List}
use Rattle.values.specs.Run.{in_class}
use Rattle.values.proofs.RunLaws.{blocks_each}
use Rattle.values.proofs.run.is_each.Goals as goal
use Rattle.values.proofs.run.is_each.Goals.{After-all}

-- what the blocks tell
told : (c : After-all) → c.all.result ≡ list_all (list_all (in_class c.args.class)) (first_chunks 64 (length c.args.v.now / 64) c.args.v.now)
told c =
    all_from_yields_List
    (list_all (in_class c.args.class))
    _
    _
    c.all.result
    c.all.ensures.ran
    (YieldsList-from_slice _ (c.iter.ensures.rest ∙ c.as_chunks.ensures.front))
    (λ x b q k. search (rules, tests))

pub returns-then-all : goal.returns-then-all
returns-then-all c =
    let v = c.args.v.now in
    let f = in_class c.args.class in
    let all : list_all (list_all f) (first_chunks 64 (length v / 64) v) ≡ true = sym (told (goal.at.returns-then-all c).After-all) ∙ c.if-all.true in
    rw c.as_chunks.ensures.back at c.is_block.ensures ∙ rw all at (blocks_each f 64 (length v / 64) v)

pub returns-else-all : goal.returns-else-all
returns-else-all c =
    let v = c.args.v.now in
    let f = in_class c.args.class in
    let all : list_all (list_all f) (first_chunks 64 (length v / 64) v) ≡ false = sym (told (goal.at.returns-else-all c).After-all) ∙ c.if-all.false in
    c.if-all.false ∙ rw all at (blocks_each f 64 (length v / 64) v)
