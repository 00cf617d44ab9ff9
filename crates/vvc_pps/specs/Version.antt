-- The version of the C interface as one number.
use Rattle.std.specs.Prelude.{ℕ, ◌+◌, ◌*◌}

abbrev pub version_of : ℕ → ℕ → ℕ → ℕ
version_of major minor patch = major * 65536 + minor * 256 + patch
