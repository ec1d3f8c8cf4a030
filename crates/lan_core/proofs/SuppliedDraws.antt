-- The draws of each supply have their shape: those that count, those from the key stream, and
-- those of a list of such draws.
use Rattle.std.proofs.Common.{◌≡◌, ◌<◌, ◌+◌, ◌*◌, ◌/◌, ◌%◌, ◌^◌, ℕ, zero, suc, List, [], ◌∷◌, ◌++◌}
use Rattle.std.proofs.Common.{All, Some, refl, ap, subst, arith}
use Rattle.std.proofs.lemmas.List.{length-append}
use Rattle.std.proofs.lemmas.List.Elements.{All-nil, All-cons, All-append, All-head, All-tail}
use Rattle.std.specs.Prelude.{slice_get}
use Rattle.std.specs.Int.{byte_at, bytes_low_first, bytes_high_first}
use Rattle.lan_base.specs.Counted.{counted, count_from}
use Rattle.lan_base.specs.ChaChaDrawn.{four_words, word_octets, chacha_from}
use Rattle.lan_core.specs.Types.{AreSome}
use Rattle.lan_core.specs.Unstopped.{AreDraws}

some-same : {A : Type 0} {a b : A} → Some a ≡ Some b → a ≡ b
some-same is = cc is

-- draws that don't end
endless : (nth : ℕ → List ℕ) → ((place : ℕ) → AreSome 16 (nth place))
    → AreDraws (λ place. Some (nth place))
endless nth shape = record {
  shape = λ place draw is. subst (AreSome 16) (some-same is) (shape place);
  ends = λ place none. absurd (cc none);
}

small : (m : ℕ) → m % 256 < 256
small m = omega arith

byte-is : (i n : ℕ) → byte_at i n < 256
byte-is zero n = small n
byte-is (suc i) n = small (n / 256 ^ suc i)

low_first : (count i n : ℕ) → AreSome count (bytes_low_first i count n)
low_first zero i n = (refl, All-nil (λ octet. octet < 256))
low_first (suc count) i n =
    let later = low_first count (suc i) n in (
      ap suc later.0,
      All-cons (λ octet. octet < 256) (byte_at i n) (bytes_low_first (suc i) count n) (byte-is i n)
          later.1,
    )

high_first : (count n : ℕ) → AreSome count (bytes_high_first count n)
high_first zero n = (refl, All-nil (λ octet. octet < 256))
high_first (suc count) n =
    let later = high_first count n in (
      ap suc later.0,
      All-cons (λ octet. octet < 256) (byte_at count n) (bytes_high_first count n) (byte-is count n)
          later.1,
    )

joined : (m n : ℕ) (a b : List ℕ) → AreSome m a → AreSome n b → AreSome (m + n) (a ++ b)
joined m n a b here there =
    let count = length-append a b in
    let one = here.0 in
    let two = there.0 in
    (omega (arith, count, one, two), All-append (λ octet. octet < 256) a b here.1 there.1)

counted-is : (n : ℕ) → AreSome 16 (counted n)
unfolding counted
counted-is n = high_first 16 (n % 2 ^ 128)

word-is : (key : List ℕ) (place : ℕ) → AreSome 4 (word_octets key place)
word-is key place = low_first 4 0 _

words-are : (key : List ℕ) (place : ℕ) → AreSome 16 (four_words key place)
unfolding four_words
words-are key place =
    let one = word_octets key place in
    let two = word_octets key (place + 1) in
    let three = word_octets key (place + 2) in
    let four = word_octets key (place + 3) in
    joined 4 12 one (two ++ (three ++ four)) (word-is key place)
    (joined 4 8 two (three ++ four) (word-is key (place + 1))
    (joined 4 4 three four (word-is key (place + 2)) (word-is key (place + 3))))

pub counts-are : (drawn : ℕ) → AreDraws (count_from drawn)
counts-are drawn = endless (λ k. counted (drawn + k + 1)) (λ k. counted-is (drawn + k + 1))

pub streamed-are : (key : List ℕ) (drawn : ℕ) → AreDraws (chacha_from key drawn)
streamed-are key drawn =
    endless (λ k. four_words key (4 * ((drawn + k) % 2 ^ 66)))
    (λ k. words-are key (4 * ((drawn + k) % 2 ^ 66)))

-- what stands at a place of a list has what each of it has
at-place : (xs : List (List ℕ)) → All (AreSome 16) xs → (n : ℕ) (x : List ℕ)
    → slice_get xs n ≡ Some x → AreSome 16 x
at-place [] all n x is = absurd (cc is)
at-place (y ∷ ys) all zero x is =
    subst (AreSome 16) (some-same is) (All-head (AreSome 16) y ys all)
at-place (y ∷ ys) all (suc n) x is = at-place ys (All-tail (AreSome 16) y ys all) n x is
