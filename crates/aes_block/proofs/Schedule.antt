-- The expansion of a key, word by word.
use Rattle.std.proofs.Common.{◌≡◌, ℕ, zero, suc, ◌+◌, ◌-◌, ◌*◌, ◌/◌, ◌%◌, ◌^◌, ◌<◌, ◌≤◌, ◌&&◌, List, [], ◌∷◌, ◌++◌, length, take, drop, set, get_or, map, refl, sym, ap, subst, ◌∙◌, arith, bit_xor, length-append, length-drop, add-one, inl, inr}
use Rattle.std.specs.Prelude.{if◌then◌else◌, nat_lt, ◌==◌, slice_index, slice_index_or}
use Rattle.std.specs.Int.{w32, from_be_bytes, rotate_left}
use Rattle.std.specs.List.{concat}
use Rattle.std.specs.Simd.{first_chunks}
use Rattle.std.proofs.Math.Seq.{take-add}
use Rattle.std.proofs.lemmas.Nat.{be_bytes_4}
use Rattle.std.proofs.lemmas.List.Elements.{All-from_get_or}
use Rattle.std.proofs.lemmas.Bool.{cases_lt, eq-eqb, le-ltb, lt-ltb}
use Rattle.std.proofs.lemmas.List.Folds.{concat-append}
use Rattle.std.proofs.lemmas.List.{append-nil, drop-drop, get_or-map, get_or-take, length-take-le, map-append, take_all, take_more_set, take-append-le, take-map, take-take}
use Rattle.aes_block.specs.Octet.{octets_sum, times}
use Rattle.aes_block.specs.Column.{octets_of, octets_of_words}
use Rattle.aes_block.specs.Expansion.{addend, expansion, key_words, next_word, power_of_x, rot_word, round_constant, round_key, sub_word, word_at}
use Rattle.aes_block.specs.declared.expansion.TheConstants.{POWERS_OF_X}
use Rattle.aes_block.proofs.EachOctet.{equal_below, below_number}
use Rattle.aes_block.proofs.Octets.{AreOctets, AreOctets-anywhere, AreOctets-drop, AreOctets-from_All, AreOctets-take}
use Rattle.aes_block.proofs.Words.{octets_of-from_bytes, octets_of-rotate_8, octets_of-xor}

-- the table of powers of x
powers : (k : ℕ) → k < 10 → slice_index POWERS_OF_X k ≡ power_of_x k
unfolding times power_of_x
powers = equal_below (slice_index POWERS_OF_X) power_of_x 10 refl

powers_fit : (k : ℕ) → k < 10 → slice_index POWERS_OF_X k < 256
powers_fit = below_number (slice_index POWERS_OF_X) 256 10 refl

-- a word at which the addend has a round constant
pub addend-at_constant : (nk i last turned substituted constant : ℕ) → last < 2 ^ 32 → i % nk ≡ 0 → i / nk - 1 < 10
    → turned ≡ rotate_left w32 last 8 → octets_of substituted ≡ sub_word (octets_of turned)
    → constant ≡ from_be_bytes w32 (slice_index POWERS_OF_X (i / nk - 1) ∷ 0 ∷ 0 ∷ 0 ∷ [])
    → octets_of (bit_xor substituted constant) ≡ addend nk i (octets_of last)
addend-at_constant nk i last turned substituted constant fits divides small is_turned is_substituted is_constant =
    let none : 0 < 256 = omega arith in
    let first : octets_of constant ≡ round_constant (i / nk) =
    octets_of-from_bytes constant _ 0 0 0 (powers_fit (i / nk - 1) small) none none none is_constant
    ∙ ap (λ x. x ∷ 0 ∷ 0 ∷ 0 ∷ []) (powers (i / nk - 1) small) in
    let second : octets_of substituted ≡ sub_word (rot_word (octets_of last)) =
    is_substituted ∙ ap sub_word (ap octets_of is_turned ∙ octets_of-rotate_8 last fits) in
    octets_of-xor substituted constant ∙ (λ j. octets_sum (second j) (first j))
    ∙ sym (ap (λ b. if b then octets_sum (sub_word (rot_word (octets_of last))) (round_constant (i / nk))
    else (if nat_lt 6 nk && i % nk == 4 then sub_word (octets_of last) else octets_of last)) (eq-eqb (i % nk) 0 divides))

pub length-expansion : (key : List ℕ) (n : ℕ) → length (expansion key n) ≡ n
unfolding expansion
length-expansion key zero = refl
length-expansion key (suc n) =
    let before = length-expansion key n in
    omega (arith, before, length-append (expansion key n) (next_word key (expansion key n) (length (expansion key n)) ∷ []))

-- one word more
pub expansion-more : (key : List ℕ) (n : ℕ) → expansion key n ++ next_word key (expansion key n) n ∷ [] ≡ expansion key (n + 1)
unfolding expansion
expansion-more key n =
    ap (λ k. expansion key n ++ next_word key (expansion key n) k ∷ []) (sym (length-expansion key n)) ∙ ap (expansion key) (sym (add-one n))

-- the words before the n-th stay
pub take-expansion : (key : List ℕ) (m n : ℕ) → m ≤ n → take m (expansion key n) ≡ expansion key m
unfolding expansion
take-expansion key m zero le =
    let none : m ≡ 0 = omega arith in
    subst (λ k. take k (expansion key zero) ≡ expansion key k) (sym none) (take_all 0 (expansion key zero) (omega (arith, length-expansion key zero)))
take-expansion key m (suc n) le =
    elim (cases_lt m (suc n)) [
      | inl less ↦ take-append-le m (expansion key n) _ (omega (arith, length-expansion key n)) ∙ take-expansion key m n (omega arith)
      | inr more ↦ let same : m ≡ suc n = omega arith in
          subst (λ k. take k (expansion key (suc n)) ≡ expansion key k) (sym same)
          (take_all (suc n) (expansion key (suc n)) (omega (arith, length-expansion key (suc n))))
    ]

-- a word that the code has
pub word_at-words : (ws : List ℕ) (es : List (List ℕ)) (i j : ℕ) → map octets_of (take i ws) ≡ es → j < i → i ≤ length ws
    → octets_of (get_or ws j 0) ≡ word_at es j
word_at-words ws es i j same lt le =
    let inside : j < length (take i ws) = omega (arith, length-take-le i ws le) in
    sym (ap (λ xs. slice_index_or xs j []) (sym same) ∙ get_or-map octets_of (take i ws) j 0 [] inside ∙ ap octets_of (get_or-take i ws j 0 lt))

-- a word after the key's own
pub next_word-after : (key ws : List ℕ) (i added : ℕ) → 4 ≤ length key → i < length ws → key_words key ≤ i
    → map octets_of (take i ws) ≡ expansion key i
    → octets_of added ≡ addend (key_words key) i (octets_of (get_or ws (i - 1) 0))
    → octets_of (bit_xor (get_or ws (i - key_words key) 0) added) ≡ next_word key (expansion key i) i
next_word-after key ws i added some room after same is_added =
    let far = word_at-words ws (expansion key i) i (i - key_words key) same (omega arith) (omega arith) in
    let near = word_at-words ws (expansion key i) i (i - 1) same (omega arith) (omega arith) in
    octets_of-xor (get_or ws (i - key_words key) 0) added
    ∙ (λ j. octets_sum (far j) ((is_added ∙ ap (addend (key_words key) i) near) j))
    ∙ sym (ap (λ b. if b then take 4 (drop (4 * i) key)
    else octets_sum (word_at (expansion key i) (i - key_words key)) (addend (key_words key) i (word_at (expansion key i) (i - 1)))) (le-ltb i (key_words key) after))

-- a word of the key's own
own_word : (key : List ℕ) (words : List (List ℕ)) (i : ℕ) → i < key_words key → next_word key words i ≡ take 4 (drop (4 * i) key)
own_word key words i lt =
    ap (λ b. if b then take 4 (drop (4 * i) key)
    else octets_sum (word_at words (i - key_words key)) (addend (key_words key) i (word_at words (i - 1)))) (lt-ltb i (key_words key) lt)

-- four octets of a whole number of fours
get_or-fours : (k : ℕ) (xs : List ℕ) (i : ℕ) → i < k → get_or (first_chunks 4 k xs) i [] ≡ take 4 (drop (4 * i) xs)
get_or-fours zero xs i lt = absurd (omega arith)
get_or-fours (suc k) xs zero lt = refl
get_or-fours (suc k) xs (suc i) lt =
    let further : 4 + 4 * i ≡ 4 * suc i = omega arith in
    get_or-fours k (drop 4 xs) i (omega arith) ∙ ap (take 4) (drop-drop (4 * i) 4 xs ∙ ap (λ n. drop n xs) further)

-- a word of the key's own, read from its octets
pub next_word-own : (key : List ℕ) (words own : List (List ℕ)) (i n : ℕ) → ((j : ℕ) → get_or key j 0 < 256) → i < key_words key
    → own ≡ first_chunks 4 (length key / 4) key → n ≡ from_be_bytes w32 (get_or own i []) → octets_of n ≡ next_word key words i
unfolding octets_of
next_word-own key words own i n fits lt is_own is =
    let four : List ℕ = take 4 (drop (4 * i) key) in
    let same : get_or own i [] ≡ four = ap (λ l. get_or l i []) is_own ∙ get_or-fours (length key / 4) key i lt in
    let octets : AreOctets key = AreOctets-from_All key (All-from_get_or (λ x. x < 256) key 0 (λ j l. fits j)) in
    be_bytes_4 four n (length-take-le 4 (drop (4 * i) key) (omega (arith, length-drop (4 * i) key)))
    (AreOctets-anywhere four (AreOctets-take 4 (drop (4 * i) key) (AreOctets-drop (4 * i) key octets)))
    (is ∙ ap (from_be_bytes w32) same)
    ∙ sym (own_word key words i lt)

-- the octets of the first words of an expanded key are the key's own
concat-expansion : (key : List ℕ) (n : ℕ) → n ≤ key_words key → concat (expansion key n) ≡ take (4 * n) key
unfolding expansion
concat-expansion key zero le = refl
concat-expansion key (suc n) le =
    let words = expansion key n in
    let count = length-expansion key n in
    let more : 4 * suc n ≡ 4 * n + 4 = omega arith in
    let next = append-nil (next_word key words (length words)) ∙ own_word key words (length words) (omega (arith, count))
    ∙ ap (λ k. take 4 (drop (4 * k) key)) count in
    concat-append words (next_word key words (length words) ∷ [])
    ∙ (λ j. concat-expansion key n (omega arith) j ++ next j)
    ∙ sym (take-add (4 * n) 4 key) ∙ ap (λ k. take k key) (sym more)

-- words whose octets are those of an expanded key begin with the key
pub key_of_words : (key ws : List ℕ) (n m : ℕ) → length key ≡ 4 * n → n ≤ m → map octets_of (take m ws) ≡ expansion key m
    → octets_of_words (take n ws) ≡ key
key_of_words key ws n m count le same =
    ap (λ l. concat (map octets_of l)) (sym (take-take n m ws le)) ∙ ap concat (sym (take-map octets_of n (take m ws)))
    ∙ ap (λ l. concat (take n l)) same ∙ ap concat (take-expansion key n m le)
    ∙ concat-expansion key n (omega (arith, count)) ∙ take_all (4 * n) key (omega (arith, count))

-- four words in a row, from the code's words
pub round_key-words : (ws : List ℕ) (key : List ℕ) (i n : ℕ) → n ≤ length ws → map octets_of (take n ws) ≡ expansion key n → 4 * i + 4 ≤ n
    → octets_of (get_or ws (4 * i) 0) ++ octets_of (get_or ws (4 * i + 1) 0) ++ octets_of (get_or ws (4 * i + 2) 0) ++ octets_of (get_or ws (4 * i + 3) 0)
    ≡ round_key (expansion key n) i
unfolding round_key
round_key-words ws key i n room same le =
    let word = λ (j : ℕ) (lt : j < n). word_at-words ws (expansion key n) n j same lt room in
    λ j. word (4 * i) (omega arith) j ++ word (4 * i + 1) (omega arith) j ++ word (4 * i + 2) (omega arith) j ++ word (4 * i + 3) (omega arith) j

-- one word more of the code's words
pub words-more : (key ws : List ℕ) (i word : ℕ) → i < length ws → map octets_of (take i ws) ≡ expansion key i
    → octets_of word ≡ next_word key (expansion key i) i → map octets_of (take (i + 1) (set ws i word)) ≡ expansion key (i + 1)
words-more key ws i word lt before is =
    ap (map octets_of) (take_more_set ws i word lt) ∙ map-append octets_of (take i ws) (word ∷ [])
    ∙ (λ j. before j ++ is j ∷ []) ∙ expansion-more key i
