-- "Values are 4 bytes, big-endian, 0 to 4294967295": a value's bytes, and the value that begins at an offset.
use Rattle.std.specs.Prelude.{ℕ, ◌+◌, ◌*◌, ◌/◌, ◌%◌, List, [], ◌∷◌, get_or}

-- the 4 bytes of a value, the highest first
unfoldable pub bytes_of : ℕ → List ℕ
bytes_of v = v / 256 / 256 / 256 % 256 ∷ v / 256 / 256 % 256 ∷ v / 256 % 256 ∷ v % 256 ∷ []

-- the value of the 4 bytes from `at` on (a byte past the end counts 0)
unfoldable pub value_at : List ℕ → ℕ → ℕ
value_at l at = get_or l at 0 * 16777216 + get_or l (at + 1) 0 * 65536 + get_or l (at + 2) 0 * 256 + get_or l (at + 3) 0
