-- The numbers of an array: its members n, its stripes S, its volume, its guard method, its row length c; and which of them are refused.
-- Assumes nothing.
use Rattle.std.specs.Prelude.{ℕ, ◌-◌, ◌*◌, ◌%◌, Bool, not, ◌&&◌, ◌==◌, nat_le}
use Rattle.layout.specs.Answers.{refuse, or_past}
use Rattle.layout.specs.declared.Array.{Array}

-- the array with these numbers
abbrev pub array_of : ℕ → ℕ → ℕ → ℕ → ℕ → Array
array_of members stripes volume method row = record { members = members; stripes = stripes; volume = volume; method = method; row = row }

-- no array: zeros throughout
abbrev pub no_array : Array
no_array = array_of 0 0 0 0 0

-- x lies between low and high, both included
abbrev pub within : ℕ → ℕ → ℕ → Bool
within low high x = nat_le low x && nat_le x high

abbrev pub members_fit : Array → Bool
members_fit a = within 3 16 a.members

-- the largest S: two to the thirty-sixth
abbrev pub most_stripes : ℕ
most_stripes = 68719476736

abbrev pub stripes_fit : Array → Bool
stripes_fit a = within 1 most_stripes a.stripes

-- the guard method: 1 the CRC, 2 the checksum, 3 large blocks with CRC-32C
abbrev pub method_fit : Array → Bool
method_fit a = within 1 3 a.method

-- m divides x; 0 divides only 0
abbrev pub divides : ℕ → ℕ → Bool
divides m x = x % m == 0

-- the row length: 1, 2, 4 .. 128, which are the divisors of 128, and a divisor of the number of stripes
abbrev pub row_fit : Array → Bool
row_fit a = divides a.row 128 && divides a.row a.stripes

-- the refusal number of the array's own numbers
unfoldable pub array_refusal : Array → ℕ
array_refusal a =
    refuse (not (members_fit a)) 1 (refuse (not (stripes_fit a)) 2 (refuse (not (method_fit a)) 12 (refuse (not (row_fit a)) 13 0)))

-- how many members of a stripe hold data: d
abbrev pub data_members : Array → ℕ
data_members a = a.members - 1

-- how many blocks the array has: S x d
abbrev pub block_count : Array → ℕ
block_count a = a.stripes * data_members a

-- the array's own refusals and then 3, where a stripe is handed in, and where a block number is
unfoldable pub stripe_refusal : Array → ℕ → ℕ
stripe_refusal a stripe = or_past (array_refusal a) stripe a.stripes 3

unfoldable pub block_refusal : Array → ℕ → ℕ
block_refusal a block = or_past (array_refusal a) block (block_count a) 3
