-- What a geometry is known for whose check answers 0.
use Rattle.std.specs.Prelude.{ℕ, ◌+◌, ◌%◌, ◌≤◌, ◌⊎◌, ◌≡◌}
use Rattle.flash.specs.Geometry.{slot_size}
use Rattle.flash.specs.declared.geometry.Geometry.{Geometry}

-- numbers 1 and 2 don't apply
pub record Shaped (g : Geometry) : Type 0 where
  pub size-min : 256 ≤ g.size
  pub size-max : g.size ≤ 4096
  pub size_pages : g.size % 256 ≡ 0
  pub count_min : 1 ≤ g.count
  pub count-max : g.count ≤ 64

-- k bytes from a on and m bytes from b on have none in common
abbrev pub Apart : ℕ → ℕ → ℕ → ℕ → Type 0
Apart a k b m = (a + k ≤ b) ⊎ (b + m ≤ a)

-- numbers 1 to 4 don't apply
pub record Valid (g : Geometry) (len : ℕ) : Type 0 where
  pub shape : Shaped g
  pub boot_on : g.boot % g.size ≡ 0
  pub update_on : g.update % g.size ≡ 0
  pub swap_on : g.swap % g.size ≡ 0
  pub boot_in : g.boot + slot_size g ≤ len
  pub update_in : g.update + slot_size g ≤ len
  pub swap_in : g.swap + g.size ≤ len
  pub boot_update : Apart g.boot (slot_size g) g.update (slot_size g)
  pub boot_swap : Apart g.boot (slot_size g) g.swap g.size
  pub update_swap : Apart g.update (slot_size g) g.swap g.size
