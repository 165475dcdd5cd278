-- Specification, section 4: the numbers of the forms.
use Rattle.std.specs.Prelude.{ℕ}

abbrev pub uti_least : ℕ
uti_least = 21

abbrev pub uti_most : ℕ
uti_most = 52

abbrev pub event_size : ℕ
event_size = 4

abbrev pub package_most : ℕ
package_most = 100

abbrev pub currency_size : ℕ
currency_size = 3

abbrev pub location_size : ℕ
location_size = 2

-- an LEI's characters before its two check digits, and the divisor
abbrev pub lei_body : ℕ
lei_body = 18

abbrev pub lei_check : ℕ
lei_check = 2

abbrev pub lei_modulus : ℕ
lei_modulus = 97
