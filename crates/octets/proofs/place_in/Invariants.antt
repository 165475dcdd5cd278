-- What is found from k on is what is found.
use Rattle.std.proofs.Common.{◌≡◌, ◌-◌, ◌*◌}
use Rattle.octets.specs.Part.{part}
use Rattle.octets.specs.Search.{first_from}
use Rattle.octets.specs.Same.{same_bytes, place_among}
use Rattle.octets.proofs.place_in.Given as goal

abbrev pub invariant-loop-k : goal.invariant-loop-k
invariant-loop-k l =
    first_from (λ k. same_bytes l.v (part l.codes (k * l.width) l.width)) l.k (l.count - l.k) ≡ place_among l.width l.count l.codes l.v
