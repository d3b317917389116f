-- Laws of a trailer's closing bytes. Assumes nothing.
use Prim.Native.Nat.{ℕ, ◌-◌}
use mathlib.Core.List.{List, [], ◌∷◌}
use mathlib.Core.Path.{◌≡◌, refl}
use lib.ListN.{length, drop}
use Rattle.compare.specs.Compare.{same}
use Rattle.flash.specs.Cuts.{sound}
use Rattle.flash.specs.Steps.{closing}

pub closing-is : closing ≡ 0x42 ∷ 0x4F ∷ 0x4F ∷ 0x54 ∷ []
unfolding closing
closing-is = refl

pub length-closing : length closing ≡ 4
unfolding closing
length-closing = refl

pub sound-is : (t : List ℕ) → sound t ≡ same (drop (length t - 4) t) closing
unfolding sound
sound-is t = refl
