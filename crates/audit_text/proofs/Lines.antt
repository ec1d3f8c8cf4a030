-- The lines of a text that is put together of two.
use Rattle.std.proofs.Common.{◌≡◌, ◌≢◌, ℕ, ◌+◌, ◌≤◌, Bool, true, false, List, [], ◌∷◌, ◌++◌, length, refl, sym, ap, ◌∙◌, append_assoc, length-append, arith}
use Rattle.std.specs.Prelude.{All, ◌==◌, if◌then◌else◌}
use Rattle.std.proofs.lemmas.Bool.Decides.{nat_tests}
use Rattle.std.proofs.lemmas.List.{append-nil}
use Rattle.std.proofs.lemmas.List.Elements.{All-head, All-tail}
use Rattle.text_lines.specs.Texts.{ended, last_line, lines_of, open_line, without_return}

-- octets without a line feed
abbrev pub HasNoFeed : List ℕ → Type 0
HasNoFeed octets = All (λ o. o ≢ 10) octets

not-feed : (octet : ℕ) → octet ≢ 10 → (octet == 10) ≡ false
not-feed octet other = grind (arith, nat_tests)

pub first-other : (x : ℕ) (xs : List ℕ) → HasNoFeed (x ∷ xs) → (x == 10) ≡ false
first-other x xs none = not-feed x (All-head (λ (o : ℕ). o ≢ 10) x xs none)

pub others : (x : ℕ) (xs : List ℕ) → HasNoFeed (x ∷ xs) → HasNoFeed xs
others x xs none = All-tail (λ (o : ℕ). o ≢ 10) x xs none

pub pushed : (xs : List ℕ) (y : ℕ) → xs ++ y ∷ [] ≢ []
pushed [] y none = cc none
pushed (x ∷ xs) y none = cc none

-- ---- two texts

ended-by : (t : Bool) (x : ℕ) (begun a b : List ℕ) → ended [] (a ++ b) ≡ ended [] a ++ ended (open_line [] a) b
    → ended (begun ++ x ∷ []) (a ++ b) ≡ ended (begun ++ x ∷ []) a ++ ended (open_line (begun ++ x ∷ []) a) b
    → (if t then without_return begun ∷ ended [] (a ++ b) else ended (begun ++ x ∷ []) (a ++ b))
    ≡ (if t then without_return begun ∷ ended [] a else ended (begun ++ x ∷ []) a)
    ++ ended (if t then open_line [] a else open_line (begun ++ x ∷ []) a) b
ended-by true x begun a b new same = ap (λ (ls : List (List ℕ)). without_return begun ∷ ls) new
ended-by false x begun a b new same = same

ended-append : (begun a b : List ℕ) → ended begun (a ++ b) ≡ ended begun a ++ ended (open_line begun a) b
ended-append begun [] b = refl
ended-append begun (x ∷ a) b =
    ended-by (x == 10) x begun a b (ended-append [] a b) (ended-append (begun ++ x ∷ []) a b)

open-by : (t : Bool) (x : ℕ) (begun a b : List ℕ) → open_line [] (a ++ b) ≡ open_line (open_line [] a) b
    → open_line (begun ++ x ∷ []) (a ++ b) ≡ open_line (open_line (begun ++ x ∷ []) a) b
    → (if t then open_line [] (a ++ b) else open_line (begun ++ x ∷ []) (a ++ b))
    ≡ open_line (if t then open_line [] a else open_line (begun ++ x ∷ []) a) b
open-by true x begun a b new same = new
open-by false x begun a b new same = same

open-append : (begun a b : List ℕ) → open_line begun (a ++ b) ≡ open_line (open_line begun a) b
open-append begun [] b = refl
open-append begun (x ∷ a) b =
    open-by (x == 10) x begun a b (open-append [] a b) (open-append (begun ++ x ∷ []) a b)

-- behind whole lines other lines begin
pub lines-append : (a b : List ℕ) → open_line [] a ≡ [] → lines_of (a ++ b) ≡ lines_of a ++ lines_of b
lines-append a b whole =
    let first : ended [] (a ++ b) ≡ ended [] a ++ ended [] b =
    ended-append [] a b ∙ ap (λ (o : List ℕ). ended [] a ++ ended o b) whole in
    let last : open_line [] (a ++ b) ≡ open_line [] b =
    open-append [] a b ∙ ap (λ (o : List ℕ). open_line o b) whole in
    let own : lines_of a ≡ ended [] a =
    ap (λ (o : List ℕ). ended [] a ++ last_line o) whole ∙ append-nil (ended [] a) in
    ap (λ (ls : List (List ℕ)). ls ++ last_line (open_line [] (a ++ b))) first
    ∙ ap (λ (o : List ℕ). (ended [] a ++ ended [] b) ++ last_line o) last
    ∙ append_assoc (ended [] a) (ended [] b) (last_line (open_line [] b))
    ∙ ap (λ (ls : List (List ℕ)). ls ++ lines_of b) (sym own)

-- ---- the first line

ended-at : (begun front rest : List ℕ) → HasNoFeed front
    → ended begun (front ++ 10 ∷ rest) ≡ without_return (begun ++ front) ∷ ended [] rest
ended-at begun [] rest none = rw (append-nil begun) refl
ended-at begun (x ∷ xs) rest none =
    rw (first-other x xs none) (ended-at (begun ++ x ∷ []) xs rest (others x xs none)
    ∙ ap (λ (l : List ℕ). without_return l ∷ ended [] rest) (append_assoc begun (x ∷ []) xs))

pub open-at : (begun front rest : List ℕ) → HasNoFeed front
    → open_line begun (front ++ 10 ∷ rest) ≡ open_line [] rest
open-at begun [] rest none = refl
open-at begun (x ∷ xs) rest none =
    rw (first-other x xs none) (open-at (begun ++ x ∷ []) xs rest (others x xs none))

ended-none : (begun text : List ℕ) → HasNoFeed text → ended begun text ≡ []
ended-none begun [] none = refl
ended-none begun (x ∷ xs) none =
    rw (first-other x xs none) (ended-none (begun ++ x ∷ []) xs (others x xs none))

pub open-none : (begun text : List ℕ) → HasNoFeed text → open_line begun text ≡ begun ++ text
open-none begun [] none = sym (append-nil begun)
open-none begun (x ∷ xs) none =
    rw (first-other x xs none)
    (open-none (begun ++ x ∷ []) xs (others x xs none) ∙ append_assoc begun (x ∷ []) xs)

pub line-first : (octets later : List ℕ) → HasNoFeed octets
    → lines_of (octets ++ 10 ∷ later) ≡ without_return octets ∷ lines_of later
line-first octets later none =
    ap (λ (ls : List (List ℕ)). ls ++ last_line (open_line [] (octets ++ 10 ∷ later))) (ended-at [] octets later none)
    ∙ ap (λ (o : List ℕ). (without_return octets ∷ ended [] later) ++ last_line o) (open-at [] octets later none)

pub line-alone : (octets : List ℕ) → HasNoFeed octets → lines_of octets ≡ last_line octets
line-alone octets none =
    ap (λ (ls : List (List ℕ)). ls ++ last_line (open_line [] octets)) (ended-none [] octets none)
    ∙ ap last_line (open-none [] octets none)

-- behind a line feed a line begins
pub open-behind : (front octets : List ℕ) → open_line [] front ≡ [] → HasNoFeed octets
    → open_line [] (front ++ (octets ++ 10 ∷ [])) ≡ []
open-behind front octets whole none =
    open-append [] front (octets ++ 10 ∷ [])
    ∙ ap (λ (o : List ℕ). open_line o (octets ++ 10 ∷ [])) whole ∙ open-at [] octets [] none

-- ---- a long line

pub record BeginsLong (count : ℕ) (lines : List (List ℕ)) : Type 0 where
  pub line : List ℕ
  pub later : List (List ℕ)
  pub parts : lines ≡ line ∷ later
  pub long : count ≤ length line + 1

without-less : (xs : List ℕ) → length xs ≤ length (without_return xs) + 1
without-less [] = omega arith
without-less (x ∷ []) = by (x == 13)
  where
    by : (b : Bool) → 1 ≤ length (if b then [] else x ∷ []) + 1
    by true = omega arith
    by false = omega arith
without-less (x ∷ y ∷ more) = let l = without-less (y ∷ more) in omega (arith, l)

long-by : (t : Bool) (x : ℕ) (begun more : List ℕ)
    → BeginsLong (length (begun ++ x ∷ [])) (ended (begun ++ x ∷ []) more ++ last_line (open_line (begun ++ x ∷ []) more))
    → BeginsLong (length begun)
    ((if t then without_return begun ∷ ended [] more else ended (begun ++ x ∷ []) more)
    ++ last_line (if t then open_line [] more else open_line (begun ++ x ∷ []) more))
long-by true x begun more later = record {
  line = without_return begun;
  later = ended [] more ++ last_line (open_line [] more);
  parts = refl;
  long = without-less begun;
}
long-by false x begun more later = record {
  line = later.line;
  later = later.later;
  parts = later.parts;
  long = let l = later.long in let m = length-append begun (x ∷ []) in omega (arith, l, m);
}

long-first : (begun more : List ℕ) → begun ≢ []
    → BeginsLong (length begun) (ended begun more ++ last_line (open_line begun more))
long-first [] [] some = absurd (some refl)
long-first (b ∷ begun) [] some = record {
  line = b ∷ begun;
  later = [];
  parts = refl;
  long = omega arith;
}
long-first begun (x ∷ more) some =
    long-by (x == 10) x begun more (long-first (begun ++ x ∷ []) more (pushed begun x))

-- octets without a line feed begin a line that is as long, but for a carriage return
pub begins-long : (front more : List ℕ) → front ≢ [] → HasNoFeed front
    → BeginsLong (length front) (lines_of (front ++ more))
begins-long front more some none =
    let first : ended [] (front ++ more) ≡ ended front more =
    ended-append [] front more
    ∙ ap (λ (ls : List (List ℕ)). ls ++ ended (open_line [] front) more) (ended-none [] front none)
    ∙ ap (λ (o : List ℕ). ended o more) (open-none [] front none) in
    let last : open_line [] (front ++ more) ≡ open_line front more =
    open-append [] front more ∙ ap (λ (o : List ℕ). open_line o more) (open-none [] front none) in
    let l = long-first front more some in
    record {
      line = l.line;
      later = l.later;
      parts = ap (λ (ls : List (List ℕ)). ls ++ last_line (open_line [] (front ++ more))) first
          ∙ ap (λ (o : List ℕ). ended front more ++ last_line o) last ∙ l.parts;
      long = l.long;
    }
