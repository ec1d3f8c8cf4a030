-- A line is read, and its fact is noted.
use Rattle.std.proofs.Common.{◌≡◌, ◌∙◌, inl, inr, ℕ, true, List, Option, Some, None, Result, Ok, Err, refl, sym, ap, subst}
use Rattle.std.specs.Prelude.{◌⊎◌, ◌↔◌, is_ok, IfOk, OnErr}
use Rattle.aes_block.specs.declared.secret.Secret.{Secret}
use Rattle.lan_base.specs.declared.address.Mi.{Mi}
use Rattle.transcript_reader.specs.Forms.{station_of}
use Rattle.transcript_reader.specs.Facts.{IsLife, Known, Tells}
use Rattle.lan_core.specs.declared.fact.Fact.{Fact}
use Rattle.lan_core.specs.declared.fact.Fact.TheVariants as shows
use Rattle.transcript.specs.Rendering.{IsOfFrame}
use Rattle.transcript.specs.declared.fault.FactError.{FactError}
use Rattle.transcript.specs.declared.fault.FactError.TheVariants as readings
use Rattle.transcript_check.specs.Judged.{error_of_reading}
use Rattle.transcript_check.specs.Standing.{Maps, Standing, StandsFor, IsCheckOf, IsLineTaken, IsDenied, IsDue, refusal, sak_at}
use Rattle.transcript_check.specs.inside.Steps.{IsNoted, Takes, Installs, Claims}
use Rattle.transcript_check.specs.inside.Denying.{fact-denies}
use Rattle.transcript_check.specs.declared.named.Named.{Named}
use Rattle.lan_base.specs.declared.key_id.KeyId.{KeyId}
use Rattle.transcript_check.specs.declared.fault.CheckError.{CheckError}
use Rattle.transcript_check.specs.declared.fault.CheckError.TheVariants.{Refused, Memory}
use Rattle.transcript_check.specs.declared.fault.CheckFault.{CheckFault}
use Rattle.transcript_check.specs.declared.fault.CheckFault.TheVariants.{Unread, Doubled, Orphan}

-- ---- what an error leaves

installs-kept : (number s epoch : ℕ) (id : KeyId) (named : Named) (old new : Maps) (o : Option Secret)
    (e : CheckError) → Installs number s epoch id named old new o (Err e) → new ≡ old
installs-kept number s epoch id named old new (Some sak) e is = is.1
installs-kept number s epoch id named old new None e is = is.1

claims-kept : (number s pn : ℕ) (old new : Maps) (o : Option Secret) (e : CheckError)
    → Claims number s pn old new o (Err e) → new ≡ old
claims-kept number s pn old new None e is = is.1
claims-kept number s pn old new (Some sak) e is = is.1

pub takes-kept : (number : ℕ) (fact : Fact) (old new : Maps) (e : CheckError)
    → Takes number fact old new (Err e) → new ≡ old
takes-kept number (shows.Installed s id an epoch sak) old new e is =
    installs-kept number s epoch id (record { an = an; sak = sak }) old new (sak_at old s epoch) e is
takes-kept number (shows.Claimed s an epoch pn) old new e is =
    claims-kept number (station_of s) pn old new (sak_at old s epoch) e is
takes-kept number _ old new e is = absurd (cc is.0)

pub takes-life : (number : ℕ) (fact : Fact) (old new : Maps) (e : CheckError) (s : ℕ) (mi : Mi)
    → Takes number fact old new (Err e) → fact ≡ shows.Life s mi → ⊥
takes-life number fact old new e s mi is same =
    let life : Takes number (shows.Life s mi) old new (Err e) =
    subst (λ f. Takes number f old new (Err e)) same is in
    cc life.0

-- ---- refusals of a fact

none-some : {A : Type 0} {x : A} → None ≡ Some x → ⊥
none-some e = cc e

some-same : (a b : CheckFault) → Some a ≡ Some b → a ≡ b
some-same a b e = cc e

-- ---- what denies a line

-- it is not read
reading-denies : (known : Known) (facts : List Fact) (octets : List ℕ) (fault : FactError)
    → (fault ≡ readings.Unread → (after : Known) (fact : Fact) → Tells known octets after fact → ⊥)
    → (why : CheckFault) → error_of_reading fault ≡ Refused why → IsDenied known facts octets why
reading-denies known facts octets readings.Memory never why e = absurd (cc e)
reading-denies known facts octets readings.Unread never Unread e = never refl
reading-denies known facts octets readings.Unread never Doubled e = absurd (cc e)
reading-denies known facts octets readings.Unread never Orphan e = absurd (cc e)

-- ---- a line that was read

-- what is known then: the fact, and that no other is read
pub record IsLine (before after : Known) (octets : List ℕ) (fact : Fact) : Type 0 where
  pub tells : Tells before octets after fact
  pub still : (after ≡ before) ⊎ IsLife fact
  pub only : (then : Known) (other : Fact) → Tells before octets then other
      → (fact ≡ other) × (after ≡ then)

-- and what noting its fact answers
pub record IsNote (fact : Fact) (old new : Maps) (r : Result Unit CheckError) : Type 0 where
  pub noted : (facts : List Fact) → StandsFor facts old → IsNoted facts fact old new r
  pub kept : OnErr r (new ≡ old)
  pub life : (s : ℕ) (mi : Mi) → fact ≡ shows.Life s mi → is_ok r ≡ true

abbrev pub standing : Known → Maps → Standing
standing known maps = record { known = known; maps = maps }

module _ (octets : List ℕ) (old : Standing) (after : Known) (new : Maps) (fact : Fact)
    (line : IsLine old.known after octets fact) where
  pub line-taken : (r : Result Unit CheckError) → IsNote fact old.maps new r → (known : Known)
      (facts : List Fact) → IsCheckOf known facts old
      → IfOk r (λ _. IsLineTaken known facts octets (standing after new))
  line-taken (Err e) note known facts is = tt
  line-taken (Ok u) note known facts is =
      let n = note.noted facts is.1 in record {
        after = after;
        fact = fact;
        tells = subst (λ ns. Tells ns octets after fact) is.0 line.tells;
        free = n.0;
        stands = (refl, n.1);
      }

  pub line-refused : (r : Result Unit CheckError) → IsNote fact old.maps new r → (known : Known)
      (facts : List Fact) → IsCheckOf known facts old → (fault : CheckFault)
      → r ≡ Err (Refused fault) → IsDenied known facts octets fault
  line-refused r note known facts is fault e =
      fact-denies known facts octets after fact
      (subst (λ ns. Tells ns octets after fact) is.0 line.tells) fault
      (subst (λ r. IsNoted facts fact old.maps new r) e (note.noted facts is.1)).0

  -- why the line is to be refused is why its fact is
  denied-by : (known : Known) (facts : List Fact) → IsCheckOf known facts old
      → (why : CheckFault) → IsDenied known facts octets why → refusal facts fact ≡ Some why
  denied-by known facts is why denied = go why denied
    where
      other : (then : Known) (x : Fact) → Tells known octets then x → fact ≡ x
      other then x reads = (line.only then x (subst (λ ns. Tells ns octets then x) (sym is.0) reads)).0

      go : (why : CheckFault) → IsDenied known facts octets why → refusal facts fact ≡ Some why
      go Unread d = absurd (d after fact (subst (λ ns. Tells ns octets after fact) is.0 line.tells))
      go Doubled d = ap (refusal facts) (other d.0 d.1 d.2) ∙ d.3
      go Orphan d = ap (refusal facts) (other d.0 d.1 d.2) ∙ d.3

  pub line-denied : (r : Result Unit CheckError) → IsNote fact old.maps new r → (known : Known)
      (facts : List Fact) → IsCheckOf known facts old → (why : CheckFault)
      → IsDenied known facts octets why → r ≡ Err (Refused why)
  line-denied r note known facts is why denied = go r (note.noted facts is.1)
    where
      due : refusal facts fact ≡ Some why
      due = denied-by known facts is why denied

      go : (r : Result Unit CheckError) → IsNoted facts fact old.maps new r → r ≡ Err (Refused why)
      go (Ok u) n = absurd (none-some (sym n.0 ∙ due))
      go (Err Memory) n = absurd (none-some (sym n.0 ∙ due))
      go (Err (Refused other)) n =
          ap (λ (f : CheckFault). Err (Refused f)) (some-same other why (sym n.0 ∙ due))

  pub line-due : (r : Result Unit CheckError) → IsNote fact old.maps new r → (known : Known)
      (facts : List Fact) → IsCheckOf known facts old → r ≡ Err Memory → IsDue known facts octets
  line-due r note known facts is e =
      let n = subst (λ r. IsNoted facts fact old.maps new r) e (note.noted facts is.1) in
      (after, fact, subst (λ ns. Tells ns octets after fact) is.0 line.tells, n.0)

  of-life : (f : Fact) → IsLife f → (s : ℕ) × (mi : Mi) × (f ≡ shows.Life s mi)
  of-life (shows.Life s mi) life = (s, mi, refl)
  of-life _ life = absurd life

  pub line-kept : (r : Result Unit CheckError) → IsNote fact old.maps new r
      → OnErr r (standing after new ≡ old)
  line-kept (Ok u) note = tt
  line-kept (Err e) note = go line.still
    where
      go : (after ≡ old.known) ⊎ IsLife fact → standing after new ≡ old
      go (inl same) = λ t. record { known = same t; maps = note.kept t }
      go (inr life) =
          let is = of-life fact life in
          let none = note.life is.0 is.1 is.2 in
          absurd (cc none)

-- ---- a line that was not read

-- no fact of a frame is refused
free-frame : (facts : List Fact) (fact : Fact) → IsOfFrame fact → refusal facts fact ≡ None
free-frame facts (shows.Framed k s sec xs) frame = refl
free-frame facts (shows.Arrived k s arrival) frame = refl
free-frame facts _ frame = absurd frame

-- what is known then: whether it is read as some fact, and where memory was wanting, as which
pub record IsUnread (known : Known) (octets : List ℕ) (fault : FactError) : Type 0 where
  pub unread : (fault ≡ readings.Unread)
      ↔ ((after : Known) (fact : Fact) → Tells known octets after fact → ⊥)
  pub memory : fault ≡ readings.Memory
      → (after : Known) × (fact : Fact) × Tells known octets after fact
  pub frames : fault ≡ readings.Memory → (after : Known) (fact : Fact)
      → Tells known octets after fact → IsOfFrame fact

module _ (octets : List ℕ) (old : Standing) (fault : FactError)
    (is_unread : IsUnread old.known octets fault) where
  abbrev unread : (fault ≡ readings.Unread)
      ↔ ((after : Known) (fact : Fact) → Tells old.known octets after fact → ⊥)
  unread = is_unread.unread

  pub none-refused : (known : Known) (facts : List Fact) → IsCheckOf known facts old
      → (why : CheckFault) → error_of_reading fault ≡ Refused why → IsDenied known facts octets why
  none-refused known facts is why e =
      reading-denies known facts octets fault
      (λ same after fact reads.
      unread.0 same after fact (subst (λ ns. Tells ns octets after fact) (sym is.0) reads)) why e

  pub none-denied : (known : Known) (facts : List Fact) → IsCheckOf known facts old
      → (why : CheckFault) → IsDenied known facts octets why → error_of_reading fault ≡ Refused why
  none-denied known facts is why denied = go why denied
    where
      never : (after : Known) (fact : Fact) → Tells known octets after fact → (why : CheckFault)
          → refusal facts fact ≡ Some why → ⊥
      never after fact reads why refused = by fault refl
        where
          there : Tells old.known octets after fact
          there = subst (λ ns. Tells ns octets after fact) (sym is.0) reads

          by : (f : FactError) → fault ≡ f → ⊥
          by readings.Unread same = unread.0 same after fact there
          by readings.Memory same =
              none-some (sym (free-frame facts fact (is_unread.frames same after fact there))
              ∙ refused)

      go : (why : CheckFault) → IsDenied known facts octets why
          → error_of_reading fault ≡ Refused why
      go Unread d = ap error_of_reading (unread.1 (λ after fact reads.
          d after fact (subst (λ ns. Tells ns octets after fact) is.0 reads)))
      go Doubled d = absurd (never d.0 d.1 d.2 Doubled d.3)
      go Orphan d = absurd (never d.0 d.1 d.2 Orphan d.3)

  pub none-due : (known : Known) (facts : List Fact) → IsCheckOf known facts old
      → error_of_reading fault ≡ Memory → IsDue known facts octets
  none-due known facts is e = go fault refl e
    where
      go : (f : FactError) → fault ≡ f → error_of_reading f ≡ Memory → IsDue known facts octets
      go readings.Unread same g = absurd (cc g)
      go readings.Memory same g =
          let p = is_unread.memory same in (
            p.0,
            p.1,
            subst (λ ns. Tells ns octets p.0 p.1) is.0 p.2,
            free-frame facts p.1 (is_unread.frames same p.0 p.1 p.2),
          )

-- ---- results that are errors

abbrev pub failing : (T : Type 0) {E : Type 0} → E → Result T E
failing T x = Err x

pub same-error : {T E : Type 0} (a b : E) → failing T a ≡ failing T b → a ≡ b
same-error {T} {E} a b e = ap error_in e
  where
    error_in : Result T E → E
    error_in (Ok x) = a
    error_in (Err c) = c

pub of-results : {T E P : Type 0} {b : E} (a : E) → (failing T a ≡ failing T b) ↔ P → (a ≡ b) ↔ P
of-results {T} {E} {P} {b} a both = (λ e. both.0 (ap (failing T) e), λ p. same-error a b (both.1 p))
