-- The code's own, in no promise to a caller: a walk as the list that an iterator over it yields.
use Rattle.std.specs.Prelude.{cond, List, [], ◌∷◌, ◌++◌, map, Result, Ok, Err, eqb}
use Rattle.refusal.specs.declared.Refusal.TheVariants as R
use Rattle.refusal.specs.declared.Refusal.{Refusal}
use Rattle.header.specs.Walk.{Walk}
use Rattle.header.specs.declared.tags.Tag.{Tag}

-- each tag, then the refusal where the walk stops at a tag that passes the end
abbrev pub items : Walk → List (Result Tag Refusal)
items w = map (λ (t : Tag). Ok t) w.tags ++ cond (eqb w.number 13) (Err R.TagOverrun ∷ []) []
