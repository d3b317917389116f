-- Document 01, "Header" and "Numbers given back": what the writer's two calls answer and leave, on every input.
use Rattle.std.specs.Prelude.{ℕ, cond, List, [], ◌∷◌, Result, Ok, Err, ltb, eqb, length}
use Rattle.header.specs.Checks.{first_refusal}
use Rattle.writer.specs.Custom.{custom_check}
use Rattle.writer.specs.Layout.{digest_to_sign, written}
use Rattle.writer.specs.declared.Fields.{Fields}

abbrev pub buffer_check : List ℕ → ℕ
buffer_check buffer = cond (eqb (length buffer) 256) 0 10

abbrev pub firmware_check : List ℕ → ℕ
firmware_check firmware = cond (eqb (length firmware) 0) 12 (cond (ltb 4294967039 (length firmware)) 12 0)

-- what the first call refuses
unfoldable pub fields_check : List ℕ → List ℕ → ℕ
fields_check firmware custom = first_refusal (firmware_check firmware ∷ custom_check custom ∷ [])

-- what it answers: the digest to be signed, or the refusal's number
unfoldable pub to_sign : Fields → List ℕ → List ℕ → List ℕ → Result (List ℕ) ℕ
to_sign fields firmware custom hint =
    cond (eqb (fields_check firmware custom) 0) (Ok (digest_to_sign fields firmware custom hint)) (Err (fields_check firmware custom))

-- what the second call refuses, and answers
unfoldable pub write_check : List ℕ → List ℕ → List ℕ → ℕ
write_check buffer firmware custom = first_refusal (buffer_check buffer ∷ fields_check firmware custom ∷ [])

-- the buffer after it: the header, or as it was
unfoldable pub buffer_after : List ℕ → Fields → List ℕ → List ℕ → List ℕ → List ℕ → List ℕ
buffer_after buffer fields firmware custom hint signature =
    cond (eqb (write_check buffer firmware custom) 0) (written fields firmware custom hint signature) buffer
