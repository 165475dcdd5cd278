-- `repository::operations::open` meets its contract. Assumes nothing.
use Rattle.std.proofs.Common.{ℕ, suc, ◌≡◌, sym, ap, ◌∙◌, arith}
use Rattle.octets.specs.Bytes.{Bytes}
use Rattle.octets.specs.Part.{splice}
use Rattle.ledger.specs.declared.header.Caps.{Caps}
use Rattle.ledger.specs.Layout.{rows_at}
use Rattle.ledger.specs.Header.{new_header}
use Rattle.submission.specs.Opening.{Limits, opened}
use Rattle.submission.proofs.Demand1.{opening_answers}
use Rattle.submission.proofs.Demand2.{opening_exactly}
use Rattle.submission.proofs.Opened.{start_is}
use Rattle.repository.specs.Answers.{limits_of}
use Rattle.repository.proofs.operations.open.Goals as goal

-- a refused opening writes nothing
kept : (limits : Limits) (caps : Caps) (l : Bytes) (n : ℕ) → (opened limits caps l).verdict ≡ suc n → l ≡ (opened limits caps l).ledger
kept limits caps l n e = sym (opening_answers limits caps l (λ z. omega (arith, z, e))).1

pub returns-then-n-lt-SHORTEST_LEDGER-clause-by_index : goal.returns-then-n-lt-SHORTEST_LEDGER-clause-by_index
returns-then-n-lt-SHORTEST_LEDGER-clause-by_index c longest =
    let a = c.args in
    sym ((opening_exactly (limits_of longest a.largest) a.caps a.l.now).short.1 c.if-n-lt-SHORTEST_LEDGER.true)

pub returns-then-n-lt-SHORTEST_LEDGER-clause-ledger_after : goal.returns-then-n-lt-SHORTEST_LEDGER-clause-ledger_after
returns-then-n-lt-SHORTEST_LEDGER-clause-ledger_after c longest =
    let a = c.args in
    kept _ _ _ _ ((opening_exactly (limits_of longest a.largest) a.caps a.l.now).short.1 c.if-n-lt-SHORTEST_LEDGER.true)

pub returns-then-not-are_caps-clause-by_index : goal.returns-then-not-are_caps-clause-by_index
returns-then-not-are_caps-clause-by_index c longest =
    let a = c.args in
    sym ((opening_exactly (limits_of longest a.largest) a.caps a.l.now).cap.1 (c.if-n-lt-SHORTEST_LEDGER.false, sym c.if-not-are_caps.ensures))

pub returns-then-not-are_caps-clause-ledger_after : goal.returns-then-not-are_caps-clause-ledger_after
returns-then-not-are_caps-clause-ledger_after c longest =
    let a = c.args in
    kept _ _ _ _ ((opening_exactly (limits_of longest a.largest) a.caps a.l.now).cap.1 (c.if-n-lt-SHORTEST_LEDGER.false, sym c.if-not-are_caps.ensures))

pub returns-clause-by_index : goal.returns-clause-by_index
returns-clause-by_index c longest =
    let a = c.args in
    sym ((opening_exactly (limits_of longest a.largest) a.caps a.l.now).accepted.1 (c.if-n-lt-SHORTEST_LEDGER.false, sym c.if-not-are_caps.ensures))

pub returns-clause-ledger_after : goal.returns-clause-ledger_after
returns-clause-ledger_after c longest =
    let a = c.args in
    c.write_header.ensures
    ∙ ap (λ n. splice a.l.now rows_at (new_header a.caps n)) c.capacity_for.ensures
    ∙ sym (start_is _ _ _ ((opening_exactly (limits_of longest a.largest) a.caps a.l.now).accepted.1 (c.if-n-lt-SHORTEST_LEDGER.false, sym c.if-not-are_caps.ensures)))
