-- The state, a list of 16 octets, and the steps of a round on it (FIPS 197, sections 3.4 and 5.1).
use Rattle.std.specs.Prelude.{ℕ, ◌+◌, ◌*◌, ◌%◌, List, [], ◌∷◌, ◌++◌, map, slice_index}
use Rattle.aes_block.specs.Octet.{◌⊕◌, octets_sum, sub_octet, times}

-- the octet in a row and a column: the columns stand one after the other (3.4)
abbrev pub octet_at : List ℕ → ℕ → ℕ → ℕ
octet_at state row column = slice_index state (row + 4 * column)

-- a column with these octets by row
abbrev pub column_of : (ℕ → ℕ) → List ℕ
column_of at = at 0 ∷ at 1 ∷ at 2 ∷ at 3 ∷ []

-- the state with these columns
abbrev pub state_of : (ℕ → List ℕ) → List ℕ
state_of column = column 0 ++ column 1 ++ column 2 ++ column 3

-- SubBytes: the S-box on each octet (5.1.1)
unfoldable pub sub_bytes : List ℕ → List ℕ
sub_bytes state = map sub_octet state

-- ShiftRows: each row moves to the left by its number, round the end (5.1.2)
unfoldable pub shift_rows : List ℕ → List ℕ
shift_rows state = state_of (λ column. column_of (λ row. octet_at state row ((column + row) % 4)))

-- an octet of a mixed column: 2 times that of its row, 3 times the next, and the other two (5.1.3)
abbrev pub mixed_octet : List ℕ → ℕ → ℕ
mixed_octet column row =
    times 2 (slice_index column row) ⊕ times 3 (slice_index column ((row + 1) % 4))
    ⊕ slice_index column ((row + 2) % 4) ⊕ slice_index column ((row + 3) % 4)

-- a mixed column: its product with 3 x ^ 3 + x ^ 2 + x + 2 modulo x ^ 4 + 1 (5.1.3)
unfoldable pub mixed_column : List ℕ → List ℕ
mixed_column column = column_of (mixed_octet column)

-- MixColumns: each column is mixed (5.1.3)
unfoldable pub mix_columns : List ℕ → List ℕ
mix_columns state = state_of (λ column. mixed_column (column_of (λ row. octet_at state row column)))

-- AddRoundKey: the sum with the round key (5.1.4)
abbrev pub add_round_key : List ℕ → List ℕ → List ℕ
add_round_key state key = octets_sum state key

-- a round (5.1)
unfoldable pub round : List ℕ → List ℕ → List ℕ
round state key = add_round_key (mix_columns (shift_rows (sub_bytes state))) key

-- the last round, in which no column is mixed (5.1)
unfoldable pub last_round : List ℕ → List ℕ → List ℕ
last_round state key = add_round_key (shift_rows (sub_bytes state)) key
