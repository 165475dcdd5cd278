-- Specification, section 10: what a host lends for a submission.
use Rattle.octets.specs.Bytes.{Bytes}

-- the buffers beside the ledger
pub record Buffers : Type 0 where
  pub tape : Bytes

pub record Lent : Type 0 where
  pub ledger : Bytes
  pub buffers : Buffers

-- the buffers in the order of the operation's arguments
abbrev pub lent_of : Bytes → Bytes → Lent
lent_of ledger tape = record { ledger = ledger; buffers = record { tape = tape } }
