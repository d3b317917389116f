-- The header's fields given as texts: the version below 2^32, the timestamp below 2^64, the firmware type below 2^16.
use Rattle.std.specs.Prelude.{ℕ, List, Option, Some, None, Result, Ok, Err}
use Rattle.writer.specs.declared.Fields.{Fields}
use Rattle.pack.specs.Decimal.{decimal_in}
use Rattle.pack.specs.declared.texts.NoNumber.{NoNumber}
use Rattle.pack.specs.declared.texts.NoNumber.TheVariants as N

unfoldable pub fields_of : Option ℕ → Option ℕ → Option ℕ → Result Fields NoNumber
fields_of (Some v) (Some t) (Some k) = Ok (record { version = v; timestamp = t; firmware_type = k })
fields_of None t k = Err N.Version
fields_of (Some v) None k = Err N.Timestamp
fields_of (Some v) (Some t) None = Err N.FirmwareType

unfoldable pub fields_in : List ℕ → List ℕ → List ℕ → Result Fields NoNumber
fields_in version timestamp kind =
    fields_of (decimal_in 0xFFFFFFFF version) (decimal_in 0xFFFFFFFFFFFFFFFF timestamp) (decimal_in 0xFFFF kind)
