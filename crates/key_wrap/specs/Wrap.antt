-- Key wrap (RFC 3394), on lists of octets. Section numbers are the RFC's.
use Rattle.std.specs.Prelude.{ℕ, zero, suc, ◌*◌, ◌/◌, List, ◌++◌, length, take, drop, replicate}
use Rattle.std.specs.Int.{w64, to_be_bytes}
use Rattle.aes_block.specs.Octet.{octets_sum}
use Rattle.aes_block.specs.Aes.{aes}

-- a block with a number of 64 bits added, bit by bit, to its first half
abbrev pub numbered : List ℕ → ℕ → List ℕ
numbered block number = octets_sum (take 8 block) (to_be_bytes w64 number) ++ drop 8 block

-- A and the registers after a step: A and the first register are encrypted; the first half, with
-- the step's number added, is the next A, and the second half comes behind the other registers
-- (2.2.1)
unfoldable pub step : List ℕ → List ℕ → ℕ → List ℕ
step kek state number = take 8 block ++ drop 16 state ++ drop 8 block where
  block : List ℕ
  block = numbered (aes kek (take 16 state)) number

-- A and the registers after so many steps, which are numbered from 1
unfoldable pub steps : List ℕ → List ℕ → ℕ → List ℕ
steps kek state zero = state
steps kek state (suc n) = step kek (steps kek state n) (suc n)

-- the initial value of A (2.2.3.1)
abbrev pub initial_value : List ℕ
initial_value = replicate 8 0xa6

-- a key of whole registers of eight octets, wrapped: six steps for each register, from the initial
-- value and the key (2.2.1)
unfoldable pub wrapped : List ℕ → List ℕ → List ℕ
wrapped kek key = steps kek (initial_value ++ key) (6 * (length key / 8))
