-- the blocks of a message, some octets later
use Rattle.std.proofs.Common.{◌≡◌, ℕ, zero, suc, ◌+◌, ◌*◌, ◌<◌, ◌≤◌, List, ◌++◌, length, drop, refl, ap, arith}
use Rattle.std.proofs.lemmas.List.{length-drop, take-append-le, drop-append-le, drop_at, take_all, length-append}
use Rattle.aes_cmac.specs.Cmac.{block, before_last, chain_after}

-- a whole block stays as it is when more octets come
pub block-append : (m xs : List ℕ) (i : ℕ) → 16 * i + 16 ≤ length m → block (m ++ xs) i ≡ block m i
block-append m xs i h =
    let before : 16 * i ≤ length m = omega arith in
    let whole : 16 ≤ length (drop (16 * i) m) = simp length-drop (omega arith) in
    rw (drop-append-le, take-append-le) refl

-- and so does the chain over whole blocks
pub chain_after-append : (key m xs : List ℕ) (i : ℕ) → 16 * i ≤ length m → chain_after key (m ++ xs) i ≡ chain_after key m i
unfolding chain_after
chain_after-append key m xs zero h = refl
chain_after-append key m xs (suc i) h =
    let before : chain_after key (m ++ xs) i ≡ chain_after key m i = chain_after-append key m xs i (omega arith) in
    let same : block (m ++ xs) i ≡ block m i = block-append m xs i (omega arith) in
    cc

-- the last block is all that is left
pub block-last : (m : List ℕ) → block m (before_last m) ≡ drop (16 * before_last m) m
block-last m =
    take_all 16 (drop (16 * before_last m) m) (simp length-drop (omega arith))

-- how many octets it has
pub length-last : (m : List ℕ) → length (block m (before_last m)) + 16 * before_last m ≡ length m
length-last m = rw (block-last m) (simp length-drop (omega arith))

-- behind a whole last block a new one begins
pub before_last-whole : (m xs : List ℕ) → length (block m (before_last m)) ≡ 16 → 0 < length xs → length xs ≤ 16
    → before_last (m ++ xs) ≡ before_last m + 1
before_last-whole m xs h some few = omega (arith, length-last m, length-append m xs)

pub block-next : (m xs : List ℕ) → length (block m (before_last m)) ≡ 16 → length xs ≤ 16 → block (m ++ xs) (before_last m + 1) ≡ xs
block-next m xs h few =
    rw (drop_at m xs (16 * (before_last m + 1)) (omega (arith, length-last m))) (take_all 16 xs few)

-- and else the last block grows
pub before_last-part : (m xs : List ℕ) → length (block m (before_last m)) + length xs ≤ 16 → before_last (m ++ xs) ≡ before_last m
before_last-part m xs h = omega (arith, length-last m, length-append m xs)

pub block-more : (m xs : List ℕ) → length (block m (before_last m)) + length xs ≤ 16
    → block (m ++ xs) (before_last m) ≡ block m (before_last m) ++ xs
block-more m xs h =
    let n = before_last m in
    let within : 16 * n ≤ length m = omega (arith, length-last m) in
    let rest : block m n ≡ drop (16 * n) m = block-last m in
    let more : drop (16 * n) (m ++ xs) ≡ drop (16 * n) m ++ xs = drop-append-le _ _ _ within in
    rw (more, rest) (take_all 16 (drop (16 * n) m ++ xs) (omega (arith, length-append (drop (16 * n) m) xs, ap length rest)))
