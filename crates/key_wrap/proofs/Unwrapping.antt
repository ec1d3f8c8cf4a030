-- a key and its wrap
use Rattle.std.proofs.Common.{◌≡◌, ℕ, ◌+◌, ◌-◌, ◌*◌, ◌/◌, ◌<◌, List, [], ◌++◌, length, take, drop, refl, ap, sym, ◌∙◌, arith}
use Rattle.std.proofs.lemmas.List.{length-append, length-drop, take-append-drop, take_at, drop_at, drop_all, append-nil}
use Rattle.std.proofs.lemmas.List.Elements.{All-append, All-replicate}
use Rattle.aes_block.specs.Aes.{IsOctets}
use Rattle.key_wrap.specs.Wrap.{steps, wrapped, initial_value}

-- the steps of a wrap, counted
pub wrapped-steps : (kek key : List ℕ) (count : ℕ) → count ≡ 6 * (length key / 8) → wrapped kek key ≡ steps kek (initial_value ++ key) count
unfolding wrapped
wrapped-steps kek key count h = rw h refl

-- the octets behind the initial value are the key
pub is_wrapped : (kek octets state : List ℕ) (count : ℕ) → count ≡ 6 * ((length state - 8) / 8) → steps kek state count ≡ octets
    → take 8 state ≡ initial_value → wrapped kek (drop 8 state) ≡ octets
is_wrapped kek octets state count counted undone initial =
    let key = drop 8 state in
    let whole : initial_value ++ key ≡ state = ap (λ a. a ++ key) (sym initial) ∙ take-append-drop 8 state in
    wrapped-steps kek key count (counted ∙ ap (λ n. 6 * (n / 8)) (sym (length-drop 8 state)))
    ∙ ap (λ s. steps kek s count) whole ∙ undone

-- of no other octets is this the wrap
pub start_is : (kek octets state : List ℕ) (n count : ℕ) → length octets ≡ 8 + n → count ≡ 6 * (n / 8)
    → ((start : List ℕ) → IsOctets (length octets) start → steps kek start count ≡ octets → state ≡ start)
    → (key : List ℕ) → IsOctets n key → wrapped kek key ≡ octets → state ≡ initial_value ++ key
start_is kek octets state n count h counted only key k e =
    only (initial_value ++ key)
    (record {
      count = length-append initial_value key ∙ omega (arith, k.count);
      octets = All-append (λ octet. octet < 256) initial_value key (All-replicate (λ octet. octet < 256) 8 0xa6 (omega arith)) k.octets;
    })
    (sym (wrapped-steps kek key count (counted ∙ ap (λ m. 6 * (m / 8)) (sym k.count))) ∙ e)

-- a key put behind eight octets that were put before it
pub put_together : (s a key : List ℕ) → length a ≡ 8 → length s ≡ 8 + length key
    → take 8 (a ++ drop 8 s) ++ (key ++ drop (length (a ++ drop 8 s) - 8) (drop 8 (a ++ drop 8 s))) ≡ a ++ key
put_together s a key h room =
    let front : take 8 (a ++ drop 8 s) ≡ a = take_at a (drop 8 s) 8 h in
    let back : drop 8 (a ++ drop 8 s) ≡ drop 8 s = drop_at a (drop 8 s) 8 h in
    let l : length (drop 8 s) ≡ length key = length-drop 8 s ∙ omega arith in
    let none : drop (length (a ++ drop 8 s) - 8) (drop 8 s) ≡ [] =
    drop_all (length (a ++ drop 8 s) - 8) (drop 8 s) (omega (arith, length-append a (drop 8 s))) in
    rw (front, back, none, append-nil) refl
