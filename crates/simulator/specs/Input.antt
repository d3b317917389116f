-- Document 01, "The simulator program reads standard input": one record of 24 bytes, then the flash. s is the record.
use Rattle.std.specs.Prelude.{ℕ, ◌≤◌, ◌≡◌, Bool, cond, ◌&&◌, List, leb, length}
use Rattle.board_records.specs.Boards.{geometry_in, boot_signed, update_signed}
use Rattle.flash.specs.declared.geometry.Geometry.{Geometry}
use Rattle.loader.specs.Checks.{image_checks}
use Rattle.loader.specs.Answers as A
use Rattle.runner.specs.Runs.{Outcome, ends, run_for}

-- a run with the number 4096; 5 where the record isn't whole or the flash is too long
unfoldable pub simulated : List ℕ → List ℕ → Outcome
simulated s f =
    cond (leb 24 (length s) && leb (length f) 65536)
    (run_for image_checks (geometry_in s) 4096 (boot_signed s) (update_signed s) f)
    (ends (A.Refused 5) f)

-- the flash f' is as the first steps of a run on f leave it, at most `number` of them
abbrev pub IsCutShort : Geometry → Bool → Bool → ℕ → List ℕ → List ℕ → Type 0
IsCutShort g a b number f f' = (k : ℕ) × ((k ≤ number) × (f' ≡ (run_for image_checks g k a b f).flash))

abbrev pub IsSimulationCutShort : List ℕ → List ℕ → List ℕ → Type 0
IsSimulationCutShort s f f' = IsCutShort (geometry_in s) (boot_signed s) (update_signed s) 4096 f f'
