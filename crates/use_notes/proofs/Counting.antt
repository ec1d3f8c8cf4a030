-- A frame more is counted.
use Rattle.std.proofs.Common.{◌≡◌, ◌∙◌, ◌<◌, ◌≤◌, ◌+◌, ◌-◌, zero-add, ℕ, suc, Bool, true, false, cond, not, List, [], ◌∷◌, length, map, filter, count_by, Option, min, refl, sym, ap, arith}
use Rattle.std.specs.Prelude.{◌==◌, ◌&&◌, nat_lt}
use Rattle.std.proofs.lemmas.List.Sums.{count_by-le-length, sum_by-cons}
use Rattle.std.proofs.lemmas.Bool.{ltb-true, ne_eqb}
use Rattle.use_notes.specs.declared.frame.RightFrame.{RightFrame}
use Rattle.use_notes.specs.declared.frame.First.{First}
use Rattle.use_notes.specs.declared.novelty.Novelty.{Novelty}
use Rattle.use_notes.specs.declared.counts.Counts.{Counts}
use Rattle.use_notes.specs.Frames.{IsBehind, AreInOrder, first_alike, novelty, is_new, is_repeated, is_reused, is_fresh}
use Rattle.use_notes.specs.Uses.{told, fresh, greatest_pn, least_pn, oldest_packet, newest_packet, is_fallen, fallen, lag, counts_of}
use Rattle.use_notes.specs.inside.Keeping.{more_of, lower_of, counts_with}

abbrev top : ℕ
top = 4294967295

-- packets from 1 on are at least as many as there are frames
pub few-before : (packet : ℕ) (fs : List RightFrame) → IsBehind packet fs → AreInOrder fs
    → suc (length fs) ≤ packet
few-before packet [] behind order = omega (arith, behind)
few-before packet (e ∷ fs) behind order =
    let more = few-before e.packet fs order.0 order.1 in
    let less = behind.0 in omega (arith, more, less)

pub few : (e : RightFrame) (fs : List RightFrame) → AreInOrder (e ∷ fs) → e.packet ≤ top
    → suc (length fs) ≤ top
few e fs order less = let more = few-before e.packet fs order.0 order.1 in omega (arith, more, less)

-- ---- counts

more-is : (count n : ℕ) (counted : Bool) → count ≤ n → suc n ≤ top
    → more_of count counted ≡ cond counted 1 0 + count
more-is count n true less fits = grind (arith, less, fits)
more-is count n false less fits = grind (arith, less, fits)

one-more : (n : ℕ) → 1 + n ≡ suc n
one-more n = omega arith

length-told : (fs : List RightFrame) → length (told fs) ≡ length fs
length-told [] = refl
length-told (e ∷ fs) = ap suc (length-told fs)

told-few : (p : RightFrame × Novelty → Bool) (fs : List RightFrame) → count_by p (told fs) ≤ length fs
told-few p fs =
    let less = count_by-le-length p (told fs) in
    let same = length-told fs in omega (arith, less, same)

fallen-few : (fs : List RightFrame) → fallen fs ≤ length fs
fallen-few [] = omega arith
fallen-few (e ∷ fs) = go (is_fallen fs e) (fallen-few fs)
  where
    go : (b : Bool) → fallen fs ≤ length fs → cond b 1 0 + fallen fs ≤ suc (length fs)
    go true less = omega (arith, less)
    go false less = omega (arith, less)

-- a frame more among the fresh ones
abbrev fresh_with : Bool → RightFrame → List RightFrame → List RightFrame
fresh_with b e fs = cond b (e ∷ fresh fs) (fresh fs)

fresh-more : (e : RightFrame) (fs : List RightFrame) (b : Bool) → is_fresh (novelty fs e) ≡ b
    → fresh (e ∷ fs) ≡ fresh_with b e fs
fresh-more e fs true is =
    ap (λ b. map (λ (t : RightFrame × Novelty). t.0) (cond b ((e, novelty fs e) ∷ filter (λ t. is_fresh t.1) (told fs)) (filter (λ t. is_fresh t.1) (told fs)))) is
fresh-more e fs false is =
    ap (λ b. map (λ (t : RightFrame × Novelty). t.0) (cond b ((e, novelty fs e) ∷ filter (λ t. is_fresh t.1) (told fs)) (filter (λ t. is_fresh t.1) (told fs)))) is

fresh-few : (fs : List RightFrame) → length (fresh fs) ≤ length fs
fresh-few [] = omega arith
fresh-few (e ∷ fs) = go (is_fresh (novelty fs e)) refl (fresh-few fs)
  where
    go : (b : Bool) → is_fresh (novelty fs e) ≡ b → length (fresh fs) ≤ length fs
        → length (fresh (e ∷ fs)) ≤ suc (length fs)
    go true is less = let now = ap length (fresh-more e fs true is) in omega (arith, now, less)
    go false is less = let now = ap length (fresh-more e fs false is) in omega (arith, now, less)

-- the first frame of all is fresh
fresh-some : (e : RightFrame) (fs : List RightFrame) → fresh (e ∷ fs) ≡ [] → ⊥
fresh-some e [] none = cc none
fresh-some e (f ∷ fs) none = go (fresh-some f fs) (is_fresh (novelty (f ∷ fs) e)) refl
  where
    go : (fresh (f ∷ fs) ≡ [] → ⊥) → (b : Bool) → is_fresh (novelty (f ∷ fs) e) ≡ b → ⊥
    go some true is = cc (sym (fresh-more e (f ∷ fs) true is) ∙ none)
    go some false is = some (sym (fresh-more e (f ∷ fs) false is) ∙ none)

some-frames : (n : ℕ) → (suc n == 0) ≡ false
some-frames n = ne_eqb (suc n) 0 (λ e. cc e)

oldest-is : (e : RightFrame) (fs : List RightFrame)
    → cond (length fs == 0) e.packet (oldest_packet (fresh fs)) ≡ oldest_packet (fresh (e ∷ fs))
oldest-is e [] = refl
oldest-is e (f ∷ fs) =
    ap (λ b. cond b e.packet (oldest_packet (fresh (f ∷ fs)))) (some-frames (length fs))
    ∙ go (is_fresh (novelty (f ∷ fs) e)) refl (fresh (f ∷ fs)) refl
  where
    go : (b : Bool) → is_fresh (novelty (f ∷ fs) e) ≡ b → (xs : List RightFrame) → fresh (f ∷ fs) ≡ xs
        → oldest_packet (fresh (f ∷ fs)) ≡ oldest_packet (fresh (e ∷ f ∷ fs))
    go b is [] none = absurd (fresh-some f fs none)
    go false is (x ∷ xs) some = ap oldest_packet (sym (fresh-more e (f ∷ fs) false is))
    go true is (x ∷ xs) some =
        ap oldest_packet some ∙ ap (λ ys. oldest_packet (e ∷ ys)) (sym some)
        ∙ ap oldest_packet (sym (fresh-more e (f ∷ fs) true is))

newest-is : (e : RightFrame) (fs : List RightFrame)
    → cond (is_fresh (novelty fs e)) e.packet (newest_packet (fresh fs)) ≡ newest_packet (fresh (e ∷ fs))
newest-is e fs = go (is_fresh (novelty fs e)) refl
  where
    go : (b : Bool) → is_fresh (novelty fs e) ≡ b
        → cond (is_fresh (novelty fs e)) e.packet (newest_packet (fresh fs)) ≡ newest_packet (fresh (e ∷ fs))
    go true is =
        ap (λ b. cond b e.packet (newest_packet (fresh fs))) is ∙ ap newest_packet (sym (fresh-more e fs true is))
    go false is =
        ap (λ b. cond b e.packet (newest_packet (fresh fs))) is ∙ ap newest_packet (sym (fresh-more e fs false is))

clear-is : (e : RightFrame) (fs : List RightFrame) → suc (length fs) ≤ top
    → more_of (count_by (λ f. not f.confidential) (fresh fs)) (is_fresh (novelty fs e) && not e.confidential)
    ≡ count_by (λ f. not f.confidential) (fresh (e ∷ fs))
clear-is e fs fits = go (is_fresh (novelty fs e)) refl
  where
    less : count_by (λ f. not f.confidential) (fresh fs) ≤ length fs
    less =
        let one = count_by-le-length (λ (f : RightFrame). not f.confidential) (fresh fs) in
        let two = fresh-few fs in omega (arith, one, two)

    go : (b : Bool) → is_fresh (novelty fs e) ≡ b
        → more_of (count_by (λ f. not f.confidential) (fresh fs)) (is_fresh (novelty fs e) && not e.confidential)
        ≡ count_by (λ f. not f.confidential) (fresh (e ∷ fs))
    go true is =
        ap (λ b. more_of (count_by (λ (f : RightFrame). not f.confidential) (fresh fs)) (b && not e.confidential)) is
        ∙ more-is (count_by (λ f. not f.confidential) (fresh fs)) (length fs) (not e.confidential) less fits
        ∙ sym (sum_by-cons (λ (f : RightFrame). cond (not f.confidential) 1 0) e (fresh fs))
        ∙ ap (count_by (λ f. not f.confidential)) (sym (fresh-more e fs true is))
    go false is =
        ap (λ b. more_of (count_by (λ (f : RightFrame). not f.confidential) (fresh fs)) (b && not e.confidential)) is
        ∙ more-is (count_by (λ f. not f.confidential) (fresh fs)) (length fs) false less fits
        ∙ zero-add (count_by (λ f. not f.confidential) (fresh fs))
        ∙ ap (count_by (λ f. not f.confidential)) (sym (fresh-more e fs false is))

-- ---- numbers

lower-is : (e : RightFrame) (fs : List RightFrame)
    → lower_of (length fs) (least_pn fs) e.pn ≡ least_pn (e ∷ fs)
lower-is e [] = refl
lower-is e (f ∷ fs) =
    ap (λ b. cond b e.pn (min e.pn (least_pn (f ∷ fs)))) (some-frames (length fs))

-- a frame fell where its lag isn't 0
fell-lags : (b : Bool) (high pn : ℕ) → (b ≡ true → pn < high) → not ((cond b (high + 1 - pn) 0) == 0) ≡ b
fell-lags false high pn below = refl
fell-lags true high pn below =
    let less = below refl in
    let some : (high + 1 - pn ≡ 0 → ⊥) = λ none. omega (arith, less, none) in
    ap not (ne_eqb (high + 1 - pn) 0 some)

fallen-below : (new : Bool) (pn high : ℕ) → (new && nat_lt pn high) ≡ true → pn < high
fallen-below true pn high is = ltb-true pn high is
fallen-below false pn high is = absurd (cc is)

fell-is : (e : RightFrame) (fs : List RightFrame) → suc (length fs) ≤ top
    → more_of (fallen fs) (not (lag fs e == 0)) ≡ fallen (e ∷ fs)
fell-is e fs fits =
    ap (more_of (fallen fs)) (fell-lags (is_fallen fs e) (greatest_pn fs) e.pn (fallen-below (is_new (novelty fs e)) e.pn (greatest_pn fs)))
    ∙ more-is (fallen fs) (length fs) (is_fallen fs e) (fallen-few fs) fits

-- ---- all

same-counts : (a b : Counts) → a.frames ≡ b.frames → a.low ≡ b.low → a.high ≡ b.high → a.first ≡ b.first
    → a.last ≡ b.last → a.repeated ≡ b.repeated → a.longest ≡ b.longest → a.reused ≡ b.reused
    → a.fell ≡ b.fell → a.window ≡ b.window → a.clear ≡ b.clear → a ≡ b
same-counts a b frames low high first last repeated longest reused fell window clear = λ t. record {
  frames = frames t;
  low = low t;
  high = high t;
  first = first t;
  last = last t;
  repeated = repeated t;
  longest = longest t;
  reused = reused t;
  fell = fell t;
  window = window t;
  clear = clear t;
}

pub counted : (fs : List RightFrame) (e : RightFrame) (c : Counts) (told : Novelty) (alike : Option First)
    → c ≡ counts_of fs → told ≡ novelty fs e → alike ≡ first_alike e.pn e.check fs → AreInOrder (e ∷ fs)
    → e.packet ≤ top → counts_with c told alike e ≡ counts_of (e ∷ fs)
counted fs e c new alike is told_is found order less =
    ap (λ (c : Counts). counts_with c new alike e) is
    ∙ ap (λ (t : Novelty). counts_with (counts_of fs) t alike e) told_is
    ∙ ap (λ (o : Option First). counts_with (counts_of fs) (novelty fs e) o e) found
    ∙ same-counts (counts_with (counts_of fs) (novelty fs e) (first_alike e.pn e.check fs) e) (counts_of (e ∷ fs))
    (more-is (length fs) (length fs) true (omega arith) fits ∙ one-more (length fs))
    (lower-is e fs)
    refl
    (oldest-is e fs)
    (newest-is e fs)
    (more-is (count_by (λ t. is_repeated t.1) (told fs)) (length fs) (is_repeated (novelty fs e)) (told-few (λ t. is_repeated t.1) fs) fits
    ∙ sym (sum_by-cons (λ (t : RightFrame × Novelty). cond (is_repeated t.1) 1 0) (e, novelty fs e) (told fs)))
    refl
    (more-is (count_by (λ t. is_reused t.1) (told fs)) (length fs) (is_reused (novelty fs e)) (told-few (λ t. is_reused t.1) fs) fits
    ∙ sym (sum_by-cons (λ (t : RightFrame × Novelty). cond (is_reused t.1) 1 0) (e, novelty fs e) (told fs)))
    (fell-is e fs fits)
    refl
    (clear-is e fs fits)
  where
    fits : suc (length fs) ≤ top
    fits = few e fs order less
