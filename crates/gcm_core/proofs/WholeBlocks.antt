-- Strings in blocks: padded strings joined, and the hash of blocks one after the other.
use Rattle.std.proofs.Common.{get_or, add-one, ◌/◌, ◌≡◌, ℕ, zero, suc, ◌+◌, ◌-◌, ◌*◌, ◌<◌, ◌≤◌, Bool, false, List, [], ◌∷◌, ◌++◌, length, take, drop, replicate, refl, sym, ap, ◌∙◌, arith, zero-add}
use Rattle.std.proofs.Math.Seq.{drop-cons}
use Rattle.std.proofs.lemmas.List.{drop_all, length-take-le, take-append-drop, drop-drop, length-append, length-drop, length-replicate, append_assoc, append-nil, take-append-le, drop-append-le, take_all, nil_from_length}
use Rattle.std.specs.Simd.{first_chunks}
use Rattle.gcm_core.specs.Blocks.{block_count, blocks_of, padded}
use Rattle.gcm_core.specs.Ghash.{ghash, next_hash}
use Rattle.gcm_core.specs.Gcm.{hashed, lengths}

pub ghash-append : (h y : List Bool) (xs ys : List (List ℕ)) → ghash h y (xs ++ ys) ≡ ghash h (ghash h y xs) ys
ghash-append h y [] ys = refl
ghash-append h y (x ∷ xs) ys = ghash-append h (next_hash h y x) xs ys

length-padded : (octets : List ℕ) → length (padded octets) ≡ 16 * block_count (length octets)
unfolding padded
length-padded octets = simp (length-append, length-replicate) (omega arith)

pub chunks-append : (k m : ℕ) (xs ys : List ℕ) → length xs ≡ 16 * k → first_chunks 16 (k + m) (xs ++ ys) ≡ first_chunks 16 k xs ++ first_chunks 16 m ys
chunks-append zero m xs ys h =
    let none : xs ≡ [] = nil_from_length xs h in
    rw (none, zero-add) refl
chunks-append (suc k) m xs ys h =
    let e : suc k + m ≡ suc (k + m) = omega arith in
    let front : take 16 (xs ++ ys) ≡ take 16 xs = take-append-le 16 xs ys (omega arith) in
    let back : drop 16 (xs ++ ys) ≡ drop 16 xs ++ ys = drop-append-le 16 xs ys (omega arith) in
    let more : first_chunks 16 (k + m) (drop 16 xs ++ ys) ≡ first_chunks 16 k (drop 16 xs) ++ first_chunks 16 m ys =
    chunks-append k m (drop 16 xs) ys (omega (arith, length-drop 16 xs)) in
    rw (e, front, back, more) refl

-- the blocks of a string of whole blocks come before those of the string behind it
blocks_of-append : (k : ℕ) (xs ys : List ℕ) → length xs ≡ 16 * k → blocks_of (xs ++ ys) ≡ blocks_of xs ++ blocks_of ys
unfolding blocks_of
blocks_of-append k xs ys h =
    let all : block_count (length (xs ++ ys)) ≡ k + block_count (length ys) = omega (arith, length-append xs ys) in
    let own : block_count (length xs) ≡ k = omega arith in
    rw (all, own) (chunks-append k (block_count (length ys)) xs ys h)

pub blocks_of-padded_append : (octets ys : List ℕ) → blocks_of (padded octets ++ ys) ≡ blocks_of (padded octets) ++ blocks_of ys
blocks_of-padded_append octets ys = blocks_of-append (block_count (length octets)) (padded octets) ys (length-padded octets)

pub blocks_of-single : (block : List ℕ) → length block ≡ 16 → blocks_of block ≡ block ∷ []
unfolding blocks_of
blocks_of-single block h = rw h (λ i. take_all 16 block (omega arith) i ∷ [])

pub blocks_of-nil : (octets : List ℕ) → length octets ≡ 0 → blocks_of (padded octets) ≡ []
unfolding blocks_of padded
blocks_of-nil octets h = rw (nil_from_length octets h) refl

-- a block that may be short, and nothing behind it
piece_last : (piece : List ℕ) → 0 < length piece → length piece ≤ 16
    → blocks_of (padded piece) ≡ (piece ++ replicate (16 - length piece) 0) ∷ []
unfolding padded
piece_last piece h short =
    let count : 16 * block_count (length piece) - length piece ≡ 16 - length piece = omega arith in
    let whole : length (piece ++ replicate (16 - length piece) 0) ≡ 16 = simp (length-append, length-replicate) (omega arith) in
    rw count (blocks_of-single (piece ++ replicate (16 - length piece) 0) whole)

-- whole blocks, and the rest
pub blocks_of-whole : (octets : List ℕ) (k : ℕ) → k ≡ length octets / 16
    → blocks_of (padded octets) ≡ first_chunks 16 k octets ++ blocks_of (padded (drop (k * 16) octets))
unfolding padded blocks_of
blocks_of-whole octets k e =
    let front = take (k * 16) octets in
    let rest = drop (k * 16) octets in
    let m = block_count (length rest) in
    let lf : length front ≡ 16 * k = length-take-le (k * 16) octets (omega arith) ∙ omega arith in
    let lr : length rest ≡ length octets - k * 16 = length-drop (k * 16) octets in
    let zeros : List ℕ = replicate (16 * m - length rest) 0 in
    let parts : octets ≡ front ++ rest = sym (take-append-drop (k * 16) octets) in
    let same : 16 * block_count (length octets) - length octets ≡ 16 * m - length rest = omega arith in
    let joined : octets ++ replicate (16 * block_count (length octets) - length octets) 0 ≡ front ++ (rest ++ zeros) =
    ap (λ n. octets ++ replicate n 0) same ∙ ap (λ os. os ++ zeros) parts ∙ append_assoc front rest zeros in
    let padded_count : block_count (length (octets ++ replicate (16 * block_count (length octets) - length octets) 0)) ≡ k + m =
    simp (length-append, length-replicate) (omega arith) in
    let rest_count : block_count (length (rest ++ zeros)) ≡ m = simp (length-append, length-replicate) (omega arith) in
    let none : k + 0 ≡ k = omega arith in
    let whole : first_chunks 16 k octets ≡ first_chunks 16 k front =
    ap (λ n. first_chunks 16 n octets) (sym none) ∙ ap (first_chunks 16 (k + 0)) parts ∙ chunks-append k 0 front rest lf
    ∙ append-nil (first_chunks 16 k front) in
    (λ i. first_chunks 16 (padded_count i) (joined i)) ∙ chunks-append k m front (rest ++ zeros) lf
    ∙ (λ i. sym whole i ++ first_chunks 16 (sym rest_count i) (rest ++ zeros))

pub chunk_at : (n j : ℕ) (octets : List ℕ) → j < n → get_or (first_chunks 16 n octets) j [] ≡ take 16 (drop (16 * j) octets)
chunk_at zero j octets h = absurd (omega arith)
chunk_at (suc n) zero octets h = refl
chunk_at (suc n) (suc j) octets h =
    let e : 16 + 16 * j ≡ 16 * suc j = omega arith in
    chunk_at n j (drop 16 octets) (omega arith) ∙ ap (take 16) (drop-drop (16 * j) 16 octets ∙ ap (λ k. drop k octets) e)

-- ---- the hash, block by block

pub ghash_step : (h y y' : List Bool) (blocks : List (List ℕ)) (j : ℕ) → j < length blocks → y' ≡ next_hash h y (get_or blocks j [])
    → ghash h y' (drop (j + 1) blocks) ≡ ghash h y (drop j blocks)
ghash_step h y y' blocks j some e =
    let parts : drop j blocks ≡ get_or blocks j [] ∷ drop (j + 1) blocks = drop-cons blocks j [] some ∙ (rw add-one refl) in
    rw (parts, e) refl

-- the hash after the whole blocks, and after the rest
pub ghash_whole : (h y z : List Bool) (octets rest : List ℕ) (blocks : List (List ℕ)) (j : ℕ)
    → blocks ≡ first_chunks 16 (length octets / 16) octets → rest ≡ drop (length octets / 16 * 16) octets
    → length blocks ≤ j → ghash h z (drop j blocks) ≡ ghash h y blocks
    → ghash h y (blocks_of (padded octets)) ≡ ghash h z (blocks_of (padded rest))
ghash_whole h y z octets rest blocks j eb er end was =
    let k = length octets / 16 in
    let done : drop j blocks ≡ [] = drop_all j blocks end in
    let all : ghash h y (first_chunks 16 k octets) ≡ z = ap (ghash h y) (sym eb) ∙ sym was ∙ ap (ghash h z) done in
    ap (ghash h y) (blocks_of-whole octets k refl)
    ∙ ghash-append h y (first_chunks 16 k octets) (blocks_of (padded (drop (k * 16) octets)))
    ∙ ap (λ w. ghash h w (blocks_of (padded (drop (k * 16) octets)))) all
    ∙ ap (λ os. ghash h z (blocks_of (padded os))) (sym er)

pub ghash_none : (h y : List Bool) (rest : List ℕ) → length rest ≡ 0 → ghash h y (blocks_of (padded rest)) ≡ y
ghash_none h y rest none = ap (ghash h y) (blocks_of-nil rest none)

pub ghash_last : (h y y' : List Bool) (rest : List ℕ) → 0 < length rest → length rest ≤ 16
    → y' ≡ next_hash h y (rest ++ replicate (16 - length rest) 0) → ghash h y (blocks_of (padded rest)) ≡ y'
ghash_last h y y' rest some short e = ap (ghash h y) (piece_last rest some short) ∙ sym e

-- the additional data, then the text, then the lengths
length-lengths : (extra text : List ℕ) → length (lengths extra text) ≡ 16
unfolding lengths
length-lengths extra text = refl

pub hashed_parts : (h y y' y'' last : List Bool) (extra text block : List ℕ) → y ≡ replicate 128 false
    → y' ≡ ghash h y (blocks_of (padded extra)) → y'' ≡ ghash h y' (blocks_of (padded text)) → block ≡ lengths extra text
    → last ≡ next_hash h y'' block → last ≡ hashed h extra text
unfolding hashed
hashed_parts h y y' y'' last extra text block e e' e'' eb el =
    let sizes : List ℕ = lengths extra text in
    let blocks : blocks_of (padded extra ++ padded text ++ sizes) ≡ blocks_of (padded extra) ++ (blocks_of (padded text) ++ sizes ∷ []) =
    rw (append_assoc, blocks_of-padded_append, blocks_of-padded_append, blocks_of-single sizes (length-lengths extra text)) refl in
    rw (blocks, ghash-append, ghash-append, ← e, ← e', ← e'', ← eb) el
