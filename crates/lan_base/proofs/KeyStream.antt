-- Four words of the key stream, read one after another.
use Rattle.std.proofs.Common.{◌≡◌, ℕ, ◌+◌, ◌*◌, ◌/◌, ◌%◌, ◌^◌, ◌<◌, List, [], ◌∷◌, get_or, refl, ap, subst, ◌∙◌, arith}
use Rattle.std.specs.Int.{w32, to_le_bytes}
use Rattle.rand_chacha.specs.ChaCha.{ChaCha, word_at, next_word}
use Rattle.lan_base.specs.ChaChaDrawn.{word_octets, four_words}

pub four_words-read : (key : List ℕ) (place p q r s : ℕ) → p ≡ place → q ≡ place + 1 → r ≡ place + 2 → s ≡ place + 3
    → (a b d e : List ℕ) → a ≡ word_octets key p → b ≡ word_octets key q → d ≡ word_octets key r → e ≡ word_octets key s
    → get_or a 0 0 ∷ get_or a 1 0 ∷ get_or a 2 0 ∷ get_or a 3 0
    ∷ get_or b 0 0 ∷ get_or b 1 0 ∷ get_or b 2 0 ∷ get_or b 3 0
    ∷ get_or d 0 0 ∷ get_or d 1 0 ∷ get_or d 2 0 ∷ get_or d 3 0
    ∷ get_or e 0 0 ∷ get_or e 1 0 ∷ get_or e 2 0 ∷ get_or e 3 0 ∷ [] ≡ four_words key place
unfolding four_words
four_words-read key place p q r s hp hq hr hs a b d e ha hb hd he = rw (ha, hb, hd, he, hp, hq, hr, hs) refl

-- the key stream of a key under the nonce 0, at a place
abbrev at : List ℕ → ℕ → ChaCha
at key place = record { key = key; stream = 0; word_pos = place }

-- one word more, before the stream begins again
one_word : (key : List ℕ) (place r : ℕ) (g h : ChaCha) → place + 1 < 2 ^ 68 → g ≡ at key place → (r, h) ≡ next_word 10 g
    → (r ≡ word_at 10 key 0 place) × (h ≡ at key (place + 1))
one_word key place r g h small from step =
    let given : (r, h) ≡ next_word 10 (at key place) = subst (λ x. (r, h) ≡ next_word 10 x) from step in
    let next : (place + 1) % 2 ^ 68 ≡ place + 1 = omega arith in
    (ap (λ x. x.0) given, ap (λ x. x.1) given ∙ ap (at key) next)

pub four_words-drawn : (g h i j k : ChaCha) (r s t u : ℕ) → g.stream ≡ 0 → g.word_pos % 4 ≡ 0 → g.word_pos < 2 ^ 68
    → (r, h) ≡ next_word 10 g → (s, i) ≡ next_word 10 h → (t, j) ≡ next_word 10 i → (u, k) ≡ next_word 10 j
    → (a b d e : List ℕ) → a ≡ to_le_bytes w32 r → b ≡ to_le_bytes w32 s → d ≡ to_le_bytes w32 t → e ≡ to_le_bytes w32 u
    → get_or a 0 0 ∷ get_or a 1 0 ∷ get_or a 2 0 ∷ get_or a 3 0
    ∷ get_or b 0 0 ∷ get_or b 1 0 ∷ get_or b 2 0 ∷ get_or b 3 0
    ∷ get_or d 0 0 ∷ get_or d 1 0 ∷ get_or d 2 0 ∷ get_or d 3 0
    ∷ get_or e 0 0 ∷ get_or e 1 0 ∷ get_or e 2 0 ∷ get_or e 3 0 ∷ [] ≡ four_words g.key (4 * ((g.word_pos / 4 + 0) % 2 ^ 66))
four_words-drawn g h i j k r s t u first whole small gh hi ij jk a b d e ra sb td ue =
    let key = g.key in
    let pos = g.word_pos in
    let start : g ≡ at key pos = ap (λ n. record { key = key; stream = n; word_pos = pos }) first in
    let one = one_word key pos r g h (omega arith) start gh in
    let two = one_word key (pos + 1) s h i (omega arith) one.1 hi in
    let three = one_word key (pos + 1 + 1) t i j (omega arith) two.1 ij in
    let given : u ≡ word_at 10 key 0 (pos + 1 + 1 + 1) = ap (λ x. x.0) (subst (λ x. (u, k) ≡ next_word 10 x) three.1 jk) in
    let place : 4 * ((pos / 4 + 0) % 2 ^ 66) ≡ pos = omega arith in
    four_words-read key (4 * ((pos / 4 + 0) % 2 ^ 66)) pos (pos + 1) (pos + 1 + 1) (pos + 1 + 1 + 1)
    (omega arith) (omega arith) (omega arith) (omega arith) a b d e
    (ra ∙ ap (to_le_bytes w32) one.0) (sb ∙ ap (to_le_bytes w32) two.0)
    (td ∙ ap (to_le_bytes w32) three.0) (ue ∙ ap (to_le_bytes w32) given)
