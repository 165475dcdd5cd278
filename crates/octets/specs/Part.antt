-- A part of bytes, and the bytes with a part replaced.
use Rattle.std.specs.Prelude.{ℕ, ◌+◌, ◌<◌, ◌≤◌, ◌≡◌, ◌++◌, take, drop, length}
use Rattle.std.specs.Borrow.{Bor}
use Rattle.octets.specs.Bytes.{Bytes}

-- the n bytes of xs from `at` on, as far as there are any
abbrev pub part : Bytes → ℕ → ℕ → Bytes
part xs at n = take n (drop at xs)

-- xs with ys in the place of as many bytes from `at` on
unfoldable pub splice : Bytes → ℕ → Bytes → Bytes
splice xs at ys = take at xs ++ (ys ++ drop (at + length ys) xs)

-- the slice r is the part of the slice m itself from `at` on: it lies in the same memory, `from` bytes on, and ends before m does; where r has bytes,
-- `from` is `at`
pub record PartOf (m : Bor Bytes) (at : ℕ) (r : Bor Bytes) : Type 0 where
  pub from : ℕ
  pub block : r.ref_ptr.0 ≡ m.ref_ptr.0
  pub place : r.ref_ptr.1 ≡ m.ref_ptr.1 + from
  pub within : from + length r.now ≤ length m.now
  pub starts : 0 < length r.now → from ≡ at
