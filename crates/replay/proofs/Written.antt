-- Texts are written, one by one.
use Rattle.std.proofs.Common.{◌≡◌, ℕ, ◌≤◌, ◌<◌, List, [], ◌∷◌, ◌++◌, length, take, Option, Some, None}
use Rattle.std.proofs.Common.{refl, sym, ap, ◌∙◌, subst, append_assoc, arith, inl, inr}
use Rattle.std.proofs.lemmas.List.{append-nil}
use Rattle.std.proofs.lemmas.Grind.{flat_map-append}
use Rattle.std.specs.Prelude.{Result, Ok, Err, MatchResult, OnOk, OnErr}
use Rattle.std.specs.Result.{IsErrAnd}
use Rattle.std.proofs.lemmas.Result.{err_from_is_err_and}
use Rattle.lan_base.specs.Faults.{Rose}
use Rattle.lan_base.specs.Told.{after}
use Rattle.lan_base.specs.declared.sink.Unwritten.{Unwritten}
use Rattle.lan_base.specs.declared.sink.Unwritten.TheVariants.{Failed, Memory}
use Rattle.replay.specs.Sinks.{Sunk, Wrote, BrokeOff, Fails, joined}

pub after-none : (told : Option (List ℕ)) → told ≡ after told []
after-none None = refl
after-none (Some held) = ap (λ (l : List ℕ). Some l) (sym (append-nil held))

pub after-after : (told : Option (List ℕ)) (a b : List ℕ)
    → after (after told a) b ≡ after told (a ++ b)
after-after None a b = refl
after-after (Some held) a b = ap (λ (l : List ℕ). Some l) (append_assoc held a b)

pub rose-earlier : (a b now : ℕ) → a ≤ b → Rose b now → Rose a now
rose-earlier a b now le (inl lt) = inl (omega (arith, le, lt))
rose-earlier a b now le (inr full) = inr full

-- ---- whole texts

pub wrote-held : (texts : List (List ℕ)) (old new : Sunk) → Wrote texts old new
    → new.held ≡ after old.held (joined texts)
wrote-held [] old new is = ap (λ (s : Sunk). s.held) is ∙ after-none old.held
wrote-held (text ∷ later) old new wrote = wrote.0

pub wrote-counts : (texts : List (List ℕ)) (old new : Sunk) → Wrote texts old new
    → old.faults ≤ new.faults
wrote-counts [] old new is =
    let same : new.faults ≡ old.faults = ap (λ (s : Sunk). s.faults) is in omega (arith, same)
wrote-counts (text ∷ later) old new wrote = wrote.1

pub wrote-more : (xs ys : List (List ℕ)) (a b c : Sunk) → Wrote xs a b → Wrote ys b c
    → Wrote (xs ++ ys) a c
wrote-more [] ys a b c is wrote = subst (λ (s : Sunk). Wrote ys s c) is wrote
wrote-more (x ∷ xs) ys a b c first then_ = (
  wrote-held ys b c then_ ∙ ap (λ (o : Option (List ℕ)). after o (joined ys)) first.0
      ∙ after-after a.held (joined (x ∷ xs)) (joined ys)
      ∙ ap (λ (l : List ℕ). after a.held l) (sym (flat_map-append (λ text. text) (x ∷ xs) ys)),
  let one = first.1 in let two = wrote-counts ys b c then_ in omega (arith, one, two),
)

pub wrote-one : (text : List ℕ) (old new : Sunk) → new.held ≡ after old.held text
    → old.faults ≤ new.faults → Wrote (text ∷ []) old new
wrote-one text old new held counts =
    (held ∙ ap (λ (l : List ℕ). after old.held l) (sym (append-nil text)), counts)

-- ---- a part of a text

pub broke-one : (text : List ℕ) (n : ℕ) (old new : Sunk) → n < length text
    → new.held ≡ after old.held (take n text) → old.faults ≤ new.faults
    → BrokeOff (text ∷ []) old new
broke-one text n old new short held counts = record {
  whole = [];
  broken = text;
  later = [];
  parts = refl;
  count = n;
  short = omega (arith, short);
  held = held;
  counts = counts;
}

pub broke-none : (text : List ℕ) (now : Sunk) → BrokeOff (text ∷ []) now now
broke-none text now = record {
  whole = [];
  broken = text;
  later = [];
  parts = refl;
  count = 0;
  short = omega arith;
  held = after-none now.held;
  counts = omega arith;
}

pub broke-later : (xs ys : List (List ℕ)) (a b c : Sunk) → Wrote xs a b → BrokeOff ys b c
    → BrokeOff (xs ++ ys) a c
broke-later xs ys a b c wrote f =
    let part = take f.count f.broken in record {
      whole = xs ++ f.whole;
      broken = f.broken;
      later = f.later;
      parts = append_assoc xs f.whole (f.broken ∷ f.later)
          ∙ ap (λ (l : List (List ℕ)). xs ++ l) f.parts;
      count = f.count;
      short = f.short;
      held = f.held
          ∙ ap (λ (o : Option (List ℕ)). after o (joined f.whole ++ part)) (wrote-held xs a b wrote)
          ∙ after-after a.held (joined xs) (joined f.whole ++ part)
          ∙ ap (λ (l : List ℕ). after a.held l) (sym (append_assoc (joined xs) (joined f.whole) part)
          ∙ ap (λ (l : List ℕ). l ++ part) (sym (flat_map-append (λ text. text) xs f.whole)));
      counts = let one = wrote-counts xs a b wrote in let two = f.counts in
          omega (arith, one, two);
    }

pub broke-longer : (xs ys : List (List ℕ)) (a c : Sunk) → BrokeOff xs a c → BrokeOff (xs ++ ys) a c
broke-longer xs ys a c f = record {
  whole = f.whole;
  broken = f.broken;
  later = f.later ++ ys;
  parts = sym (append_assoc f.whole (f.broken ∷ f.later) ys)
      ∙ ap (λ (l : List (List ℕ)). l ++ ys) f.parts;
  count = f.count;
  short = f.short;
  held = f.held;
  counts = f.counts;
}

-- ---- how writing fails

pub fails-broke : (texts : List (List ℕ)) (old new : Sunk) (why : Unwritten) → Fails texts old new why
    → BrokeOff texts old new
fails-broke texts old new Failed f = f.1
fails-broke texts old new Memory f = f

-- texts were written up to one at which it failed, and those behind it were not
pub fails-behind : (xs : List (List ℕ)) (text : List ℕ) (behind : List (List ℕ)) (a b c : Sunk)
    (why : Unwritten) → Wrote xs a b → Fails (text ∷ []) b c why → Fails (xs ++ text ∷ behind) a c why
fails-behind xs text behind a b c Failed wrote f = (
  rose-earlier a.faults b.faults c.faults (wrote-counts xs a b wrote) f.0,
  broke-later xs (text ∷ behind) a b c wrote (broke-longer (text ∷ []) behind b c f.1),
)
fails-behind xs text behind a b c Memory wrote f =
    broke-later xs (text ∷ behind) a b c wrote (broke-longer (text ∷ []) behind b c f)

-- a text of which nothing was written, for want of memory
pub none-fails : (text : List ℕ) (now : Sunk) (r : Result (Unit {0}) Unwritten)
    → IsErrAnd r (λ y. y ≡ Memory) → MatchResult r (λ done. Wrote (text ∷ []) now now)
    (λ why. Fails (text ∷ []) now now why)
none-fails text now r is =
    let p = err_from_is_err_and r is in
    subst (λ (r : Result (Unit {0}) Unwritten). MatchResult r (λ done. Wrote (text ∷ []) now now)
    (λ why. Fails (text ∷ []) now now why))
    (sym (p.1 ∙ ap (λ (y : Unwritten). Err y) p.2)) (broke-none text now)

-- ---- what a sink holds at least

pub record Grew (old new : Sunk) : Type 0 where
  pub more : List ℕ
  pub held : new.held ≡ after old.held more
  pub counts : old.faults ≤ new.faults

pub grew-wrote : (texts : List (List ℕ)) (old new : Sunk) → Wrote texts old new → Grew old new
grew-wrote texts old new wrote = record {
  more = joined texts;
  held = wrote-held texts old new wrote;
  counts = wrote-counts texts old new wrote;
}

pub grew-broke : (texts : List (List ℕ)) (old new : Sunk) → BrokeOff texts old new → Grew old new
grew-broke texts old new f = record {
  more = joined f.whole ++ take f.count f.broken;
  held = f.held;
  counts = f.counts;
}

-- a text is written by one call: all of it, or a part
pub by-one : (text : List ℕ) (old new : Sunk) (r : Result (Unit {0}) Unwritten)
    → OnOk r (new.held ≡ after old.held text)
    → OnErr r ((n : ℕ) × (n < length text) × (new.held ≡ after old.held (take n text)))
    → (r ≡ Err Failed → Rose old.faults new.faults) → old.faults ≤ new.faults
    → MatchResult r (λ done. Wrote (text ∷ []) old new) (λ why. Fails (text ∷ []) old new why)
by-one text old new (Ok done) all part failed counts = wrote-one text old new all counts
by-one text old new (Err Failed) all part failed counts =
    (failed refl, broke-one text part.0 old new part.1 part.2 counts)
by-one text old new (Err Memory) all part failed counts =
    broke-one text part.0 old new part.1 part.2 counts
