-- Document 01, "The simulator program reads standard input": the record of 24 bytes, s.
use Rattle.std.specs.Prelude.{ℕ, ◌/◌, ◌%◌, Bool, List, eqb}
use Rattle.flash.specs.declared.geometry.Geometry.{Geometry}
use Rattle.header.specs.Numbers.{number_at}

-- z, n, BOOT, UPDATE and SWAP
abbrev pub geometry_in : List ℕ → Geometry
geometry_in s =
    record {
      size = number_at 4 s 0;
      count = number_at 4 s 4;
      boot = number_at 4 s 8;
      update = number_at 4 s 12;
      swap = number_at 4 s 16;
    }

-- the signature checker's answers: bit 0 BOOT, bit 1 UPDATE, the rest ignored
abbrev pub boot_signed : List ℕ → Bool
boot_signed s = eqb (number_at 4 s 20 % 2) 1

abbrev pub update_signed : List ℕ → Bool
update_signed s = eqb (number_at 4 s 20 / 2 % 2) 1
