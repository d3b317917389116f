-- What the decisions ask of images. The decisions take it as a parameter, so that what is shown of a swap holds for
-- every verdict and every acceptance rule.
use Rattle.std.specs.Prelude.{ℕ, Bool, cond, List, ltb, eqb}
use Rattle.flash.specs.Geometry.{unless}
use Rattle.header.specs.Checks.{header_check, version_in}
use Rattle.image.specs.Verdict.{verdict}

pub record Checks : Type 0 where
  -- of an image and the signature checker's answer: the number that it fails with, 0 where it passes
  pub verdict : List ℕ → Bool → ℕ
  -- of BOOT's image and UPDATE's: the number for which the second may not replace the first, 0 where it may
  pub acceptance : List ℕ → List ℕ → ℕ

-- decision 3: where BOOT's header passes its checks, UPDATE's version must be greater
unfoldable pub version_rule : List ℕ → List ℕ → ℕ
version_rule boot update = cond (eqb (header_check boot) 0) (unless (ltb (version_in boot) (version_in update)) 19 0) 0

abbrev pub image_checks : Checks
image_checks = record { verdict = verdict; acceptance = version_rule }
