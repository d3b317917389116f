use Rattle.std.proofs.Common.{◌≡◌, ◌∷◌, [], rules, ◌∙◌}
use Rattle.std.proofs.Math.Nat.{div-one}
use Rattle.std.specs.Int.{to_be_bytes, w32}
use Rattle.std.specs.List.{flat_map}
use Rattle.sha256.specs.Digest.{to_bytes}
use Rattle.sha256.specs.declared.hash.Hash.{Hash}
use Rattle.sha256.proofs.hash.Hash.to_bytes.Goals as goal

big_endian : (s : Hash)
    → flat_map (λ x. x) (to_be_bytes w32 s.a ∷ to_be_bytes w32 s.b ∷ to_be_bytes w32 s.c ∷ to_be_bytes w32 s.d ∷ to_be_bytes w32 s.e ∷ to_be_bytes w32 s.f ∷ to_be_bytes w32 s.g ∷ to_be_bytes w32 s.h ∷ []) ≡ to_bytes s
big_endian s = rw (div-one s.a, div-one s.b, div-one s.c, div-one s.d, div-one s.e, div-one s.f, div-one s.g, div-one s.h)

pub returns : goal.returns
returns c =
    let s = c.args.self in
    let whole : c.unwrap.result.now ≡ c.as_flattened.result.now = search rules in
    whole ∙ c.as_flattened.ensures.value ∙ cc (big_endian s)
