-- Document 01, "Flash steps and cuts": the bytes of a flash. Erased bytes are FF; a write only clears bits.
use Rattle.std.specs.Prelude.{ℕ, ◌+◌, List, [], ◌∷◌, ◌++◌, length, take, drop, replicate}
use Rattle.std.specs.Int.Bits.{bit_and}

unfoldable pub blank : ℕ → List ℕ
blank k = replicate k 0xFF

-- f with d in place of as many bytes from an offset on
unfoldable pub overlay : List ℕ → ℕ → List ℕ → List ℕ
overlay f at d = take at f ++ d ++ drop (at + length d) f

-- the first bytes ANDed with the data's: new = old AND data
unfoldable pub ands : List ℕ → List ℕ → List ℕ
ands f [] = f
ands [] (y ∷ d) = []
ands (x ∷ f) (y ∷ d) = bit_and x y ∷ ands f d

unfoldable pub write : List ℕ → ℕ → List ℕ → List ℕ
write f at d = take at f ++ ands (drop at f) d
