-- The part of two bytes is these.
use Rattle.std.proofs.Common.{arith, ◌≡◌, ◌+◌, ◌*◌, ◌<◌, ◌≤◌, length, get_or, ℕ, suc, drop-cons, ap}
use Rattle.octets.specs.Number.{from_le}
use Rattle.octets.specs.Bytes.{Bytes}
use Rattle.octets.specs.Part.{part}
use Rattle.message.specs.Layout.{u16_at}
use Rattle.message.proofs.layout.u16_at.Goals as goal

two : (m : Bytes) (at : ℕ) → at + 2 ≤ length m → from_le (part m at 2) ≡ get_or m (suc at) 0 * 256 + get_or m at 0
unfolding from_le
two m at h =
    let h₀ : at < length m = omega arith in
    let h₁ : suc at < length m = omega arith in
    rw (drop-cons m at 0, drop-cons m (suc at) 0) (omega arith)

pub returns : goal.returns
unfolding u16_at
returns c =
    let a = c.args in
    let next : get_or a.m.now (a.at + 1) 0 ≡ get_or a.m.now (suc a.at) 0 = ap (λ (k : ℕ). get_or a.m.now k 0) (omega arith) in
    (omega (arith, two a.m.now a.at c.requires), omega arith)
