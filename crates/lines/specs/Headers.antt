-- The header of an image: two bytes of length, a version, the members, the volume; then, by the version, the bytes of the stripes and
-- the later numbers, a byte each: the method, the row length. Assumes nothing.
use Rattle.std.specs.Prelude.{ℕ, ◌+◌, ◌-◌, Bool, not, cond, ◌&&◌, List, leb, ltb, eqb, length, get_or, take, drop}
use Rattle.layout.specs.Answers.{refuse}
use Rattle.layout.specs.Arrays.{array_of, array_refusal}
use Rattle.layout.specs.declared.Array.{Array}
use Rattle.tag.specs.Numbers.{number_of}
use Rattle.lines.specs.declared.header.Form.{Form}

-- room for the longest header
abbrev pub header_room : ℕ
header_room = 15

-- so many bytes of stripes, and so many later numbers
abbrev pub form : ℕ → ℕ → Form
form wide more = record { wide = wide; more = more }

-- the table: a row for each version; any other has no bytes of stripes
unfoldable pub form_of : ℕ → Form
form_of version =
    cond (eqb version 1) (form 4 0)
    (cond (eqb version 2) (form 4 1)
    (cond (eqb version 3) (form 4 2)
    (cond (eqb version 4) (form 8 2)
    (form 0 0))))

-- the form of the header that begins so, unknown where its version has not come
abbrev pub header_form : List ℕ → Form
header_form bytes = form_of (get_or bytes 2 0)

abbrev pub known : Form → Bool
known f = not (eqb f.wide 0)

-- how many bytes a header of this form has; where the form is unknown, the three that tell so
unfoldable pub form_size : Form → ℕ
form_size f = cond (known f) (5 + f.wide + f.more) 3

abbrev pub header_size : List ℕ → ℕ
header_size bytes = form_size (header_form bytes)

-- the k-th of the later numbers, which stand behind the stripes; 1 where the version does not tell it
unfoldable pub later : List ℕ → ℕ → ℕ
later bytes k = cond (ltb k (header_form bytes).more) (get_or bytes (5 + (header_form bytes).wide + k) 0) 1

unfoldable pub array_in : List ℕ → Array
array_in bytes = array_of (get_or bytes 3 0) (number_of (take (header_form bytes).wide (drop 5 bytes))) (get_or bytes 4 0) (later bytes 0) (later bytes 1)

-- 10 where its version is in no row, it is short, or it says another length than that of the bytes that follow the first two; then the
-- array's own refusal
unfoldable pub header_refusal : List ℕ → ℕ
header_refusal bytes =
    refuse (not (known (header_form bytes) && leb (header_size bytes) (length bytes) && eqb (number_of (take 2 bytes)) (header_size bytes - 2))) 10
    (array_refusal (array_in bytes))
