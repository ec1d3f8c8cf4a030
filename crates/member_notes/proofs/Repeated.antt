-- An MKPDU once more, directly behind itself.
use Rattle.std.proofs.Common.{◌≡◌, ◌∙◌, ℕ, Bool, true, false, cond, List, [], ◌∷◌, ◌++◌, Option, Some, None, refl, sym, ap, arith}
use Rattle.std.specs.Prelude.{◌==◌, ◌&&◌, is_some, nat_lt}
use Rattle.std.specs.Option.{option_or}
use Rattle.std.proofs.lemmas.Bool.{eqb-true, le-ltb}
use Rattle.lan_base.specs.declared.address.Mi.{Mi}
use Rattle.member_notes.specs.declared.mkpdu.RightMkpdu.{RightMkpdu}
use Rattle.member_notes.specs.declared.mkpdu.First.{First}
use Rattle.member_notes.specs.declared.novelty.MkpduNovelty.{MkpduNovelty}
use Rattle.member_notes.specs.declared.novelty.MkpduNovelty.TheVariants.{New, Again}
use Rattle.member_notes.specs.Mkpdus.{first_of, is_above, is_of, mkpdus_of, note_here, note_of, novelty, novelty_after, novelty_in, risen, same_check}
use Rattle.member_notes.proofs.Firsts.{or-none, same-here}
use Rattle.member_notes.proofs.Putting.{mkpdus-with}
use Rattle.member_notes.proofs.Same.{list-itself, of-itself}

-- ---- a message number that was there is not above all

and-false : (b : Bool) → (b && false) ≡ false
and-false true = refl
and-false false = refl

not-above : (mn : ℕ) (ms : List RightMkpdu) → is_some (first_of mn ms) ≡ true → is_above mn ms ≡ false
not-above mn [] some = absurd (cc some)
not-above mn (e ∷ ms) some = go (not-above mn ms) (first_of mn ms) refl
  where
    here : (b : Bool) → (e.mn == mn) ≡ b → is_some (cond b (Some (note_of e)) None) ≡ true
        → is_above mn (e ∷ ms) ≡ false
    here true is found =
        ap (λ b. b && is_above mn ms) (le-ltb e.mn mn (omega (arith, eqb-true e.mn mn is)))
    here false is found = absurd (cc found)

    go : (is_some (first_of mn ms) ≡ true → is_above mn ms ≡ false) → (o : Option First) → first_of mn ms ≡ o
        → is_above mn (e ∷ ms) ≡ false
    go below None is = here (e.mn == mn) refl (ap (λ o. is_some (option_or o (note_here mn e))) (sym is) ∙ some)
    go below (Some f) is = ap (λ b. nat_lt e.mn mn && b) (below (ap is_some is)) ∙ and-false (nat_lt e.mn mn)

-- ---- it comes again

-- what it is, from what the first with its message number is
once-more : (o : Option First) (b : Bool) (e : RightMkpdu) (packet : ℕ) → MkpduNovelty
once-more o b e packet = novelty_after (option_or o (Some (note_of e))) b (record e { packet = packet })

new-once-more : (o : Option First) (a b : Bool) (e : RightMkpdu) (packet : ℕ) → (is_some o ≡ true → a ≡ false)
    → novelty_after o a e ≡ New → once-more o b e packet ≡ Again e.packet
unfolding once-more
new-once-more None a b e packet below new = ap (λ s. cond s (Again e.packet) (risen b)) (list-itself e.check)
new-once-more (Some f) a b e packet below new = go (same_check f.check e.check) new
  where
    go : (s : Bool) → cond s (Again f.packet) (risen a) ≡ New → once-more (Some f) b e packet ≡ Again e.packet
    go true is = absurd (cc is)
    go false is = absurd (cc (sym (ap risen (below refl)) ∙ is))

again-once-more : (o : Option First) (a b : Bool) (e : RightMkpdu) (packet first : ℕ)
    → novelty_after o a e ≡ Again first → once-more o b e packet ≡ Again first
unfolding once-more
again-once-more None true b e packet first is = absurd (cc is)
again-once-more None false b e packet first is = absurd (cc is)
again-once-more (Some f) a b e packet first is = go (same_check f.check e.check) a is
  where
    go : (s a : Bool) → cond s (Again f.packet) (risen a) ≡ Again first
        → cond s (Again f.packet) (risen b) ≡ Again first
    go true a is = is
    go false true is = absurd (cc is)
    go false false is = absurd (cc is)

-- behind itself
behind-itself : (h : List RightMkpdu) (e : RightMkpdu) (packet : ℕ)
    → (b : Bool) × (novelty_in (e ∷ h) (record e { packet = packet }) ≡ once-more (first_of e.mn (mkpdus_of e.group e.mi h)) b e packet)
unfolding once-more
behind-itself h e packet =
    let ms = mkpdus_of e.group e.mi h in
    let more = record e { packet = packet } in (
      is_above e.mn (e ∷ ms),
      ap (λ ms. novelty ms more) (mkpdus-with e.group e.mi e h true (of-itself e))
          ∙ ap (λ here. novelty_after (option_or (first_of e.mn ms) here) (is_above e.mn (e ∷ ms)) more) (same-here e),
    )

pub new-again : (h : List RightMkpdu) (e : RightMkpdu) (packet : ℕ) → novelty_in h e ≡ New
    → novelty_in (e ∷ h) (record e { packet = packet }) ≡ Again e.packet
new-again h e packet new =
    let ms = mkpdus_of e.group e.mi h in
    let behind = behind-itself h e packet in
    behind.1
    ∙ new-once-more (first_of e.mn ms) (is_above e.mn ms) behind.0 e packet (not-above e.mn ms) new

pub again-again : (h : List RightMkpdu) (e : RightMkpdu) (packet first : ℕ) → novelty_in h e ≡ Again first
    → novelty_in (e ∷ h) (record e { packet = packet }) ≡ Again first
again-again h e packet first again =
    let ms = mkpdus_of e.group e.mi h in
    let behind = behind-itself h e packet in
    behind.1 ∙ again-once-more (first_of e.mn ms) (is_above e.mn ms) behind.0 e packet first again

-- ---- it changes nothing of others

kept-here : (b : Bool) (o : Option First) (x y : First)
    → option_or (option_or o (cond b (Some x) None)) (cond b (Some y) None) ≡ option_or o (cond b (Some x) None)
kept-here true None x y = refl
kept-here true (Some f) x y = refl
kept-here false o x y = or-none (option_or o None)

kept-above : (a b : Bool) → (a && (a && b)) ≡ (a && b)
kept-above true b = refl
kept-above false b = refl

module _ (group : ℕ) (mi : Mi) (mn : ℕ) (e : RightMkpdu) (packet : ℕ) (h : List RightMkpdu) where
  first-same : (later : List RightMkpdu)
      → first_of mn (mkpdus_of group mi (later ++ record e { packet = packet } ∷ e ∷ h))
      ≡ first_of mn (mkpdus_of group mi (later ++ e ∷ h))
  first-same [] = go (is_of group mi e)
    where
      ms : List RightMkpdu
      ms = mkpdus_of group mi h

      more : RightMkpdu
      more = record e { packet = packet }

      go : (b : Bool) → first_of mn (cond b (more ∷ cond b (e ∷ ms) ms) (cond b (e ∷ ms) ms))
          ≡ first_of mn (cond b (e ∷ ms) ms)
      go true = kept-here (e.mn == mn) (first_of mn ms) (note_of e) (note_of more)
      go false = refl
  first-same (x ∷ later) = go (first-same later) (is_of group mi x)
    where
      long : List RightMkpdu
      long = mkpdus_of group mi (later ++ record e { packet = packet } ∷ e ∷ h)

      short : List RightMkpdu
      short = mkpdus_of group mi (later ++ e ∷ h)

      go : first_of mn long ≡ first_of mn short → (b : Bool)
          → first_of mn (cond b (x ∷ long) long) ≡ first_of mn (cond b (x ∷ short) short)
      go same true = ap (λ o. option_or o (note_here mn x)) same
      go same false = same

  above-same : (later : List RightMkpdu)
      → is_above mn (mkpdus_of group mi (later ++ record e { packet = packet } ∷ e ∷ h))
      ≡ is_above mn (mkpdus_of group mi (later ++ e ∷ h))
  above-same [] = go (is_of group mi e)
    where
      ms : List RightMkpdu
      ms = mkpdus_of group mi h

      more : RightMkpdu
      more = record e { packet = packet }

      go : (b : Bool) → is_above mn (cond b (more ∷ cond b (e ∷ ms) ms) (cond b (e ∷ ms) ms))
          ≡ is_above mn (cond b (e ∷ ms) ms)
      go true = kept-above (nat_lt e.mn mn) (is_above mn ms)
      go false = refl
  above-same (x ∷ later) = go (above-same later) (is_of group mi x)
    where
      long : List RightMkpdu
      long = mkpdus_of group mi (later ++ record e { packet = packet } ∷ e ∷ h)

      short : List RightMkpdu
      short = mkpdus_of group mi (later ++ e ∷ h)

      go : is_above mn long ≡ is_above mn short → (b : Bool)
          → is_above mn (cond b (x ∷ long) long) ≡ is_above mn (cond b (x ∷ short) short)
      go same true = ap (λ a. nat_lt x.mn mn && a) same
      go same false = same

pub others-same : (later h : List RightMkpdu) (e other : RightMkpdu) (packet : ℕ)
    → novelty_in (later ++ record e { packet = packet } ∷ e ∷ h) other ≡ novelty_in (later ++ e ∷ h) other
others-same later h e other packet =
    let long = mkpdus_of other.group other.mi (later ++ record e { packet = packet } ∷ e ∷ h) in
    let short = mkpdus_of other.group other.mi (later ++ e ∷ h) in
    ap (λ o. novelty_after o (is_above other.mn long) other)
    (first-same other.group other.mi other.mn e packet h later)
    ∙ ap (λ a. novelty_after (first_of other.mn short) a other)
    (above-same other.group other.mi other.mn e packet h later)
