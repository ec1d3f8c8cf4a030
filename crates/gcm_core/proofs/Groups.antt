-- A text by groups of four blocks, and what is left.
use Rattle.std.proofs.Common.{◌≡◌, ℕ, zero, suc, ◌+◌, ◌-◌, ◌*◌, ◌/◌, ◌≤◌, ◌<◌, Bool, List, [], ◌++◌, length, take, drop, get_or, refl, sym, ap, ◌∙◌, arith}
use Rattle.std.proofs.lemmas.List.{append_assoc, drop-drop, length-drop, length-take-le, take-append-drop}
use Rattle.std.specs.Simd.{first_chunks}
use Rattle.gcm_core.specs.Blocks.{blocks_of, padded}
use Rattle.gcm_core.specs.Ghash.{ghash}
use Rattle.gcm_core.proofs.WholeBlocks.{blocks_of-whole, chunks-append, ghash-append}

-- the blocks of a text: the first four, and those of what is behind them
four_more : (os : List ℕ) → 64 ≤ length os → blocks_of (padded os) ≡ first_chunks 16 4 (take 64 os) ++ blocks_of (padded (drop 64 os))
four_more os some =
    let front = take 64 os in
    let rest = drop 64 os in
    let k = length os / 16 in
    let m = length rest / 16 in
    let lf : length front ≡ 16 * 4 = length-take-le 64 os some in
    let lr : length rest ≡ length os - 64 = length-drop 64 os in
    let count : k ≡ 4 + m = omega (arith, lr) in
    let place : k * 16 ≡ 64 + m * 16 = omega (arith, lr) in
    let front_chunks : first_chunks 16 k os ≡ first_chunks 16 4 front ++ first_chunks 16 m rest =
    (λ i. first_chunks 16 (count i) (sym (take-append-drop 64 os) i)) ∙ chunks-append 4 m front rest lf in
    let back : drop (k * 16) os ≡ drop (m * 16) rest = ap (λ n. drop n os) place ∙ sym (drop-drop (m * 16) 64 os) in
    blocks_of-whole os k refl
    ∙ (λ i. front_chunks i ++ blocks_of (padded (back i)))
    ∙ append_assoc (first_chunks 16 4 front) (first_chunks 16 m rest) (blocks_of (padded (drop (m * 16) rest)))
    ∙ ap (λ bs. first_chunks 16 4 front ++ bs) (sym (blocks_of-whole rest m refl))

pub group_at : (n j : ℕ) (os : List ℕ) → j < n → get_or (first_chunks 64 n os) j [] ≡ take 64 (drop (64 * j) os)
group_at zero j os h = absurd (omega arith)
group_at (suc n) zero os h = refl
group_at (suc n) (suc j) os h =
    let e : 64 + 64 * j ≡ 64 * suc j = omega arith in
    group_at n j (drop 64 os) (omega arith) ∙ ap (take 64) (drop-drop (64 * j) 64 os ∙ ap (λ k. drop k os) e)

-- a group more
pub group_more : (h y z : List Bool) (os group : List ℕ) (j : ℕ) → j < length os / 64 → group ≡ take 64 (drop (64 * j) os)
    → z ≡ ghash h y (first_chunks 16 4 group)
    → ghash h z (blocks_of (padded (drop (64 * (j + 1)) os))) ≡ ghash h y (blocks_of (padded (drop (64 * j) os)))
group_more h y z os group j some eg ez =
    let xs = drop (64 * j) os in
    let e : 64 * j + 64 ≡ 64 * (j + 1) = omega arith in
    let next : drop 64 xs ≡ drop (64 * (j + 1)) os = drop-drop 64 (64 * j) os ∙ ap (λ k. drop k os) e in
    sym (ap (ghash h y) (four_more xs (omega (arith, length-drop (64 * j) os)))
    ∙ ghash-append h y (first_chunks 16 4 (take 64 xs)) (blocks_of (padded (drop 64 xs)))
    ∙ (λ i. ghash h (ghash h y (first_chunks 16 4 (sym eg i))) (blocks_of (padded (next i))))
    ∙ ap (λ v. ghash h v (blocks_of (padded (drop (64 * (j + 1)) os)))) (sym ez))
