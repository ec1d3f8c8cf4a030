-- The SAKs that were installed, and one fact more.
use Rattle.std.proofs.Common.{◌≡◌, ◌∙◌, ◌⊎◌, inl, inr, ℕ, Bool, true, false, cond, List, [], ◌∷◌, ◌++◌, Option, Some, None, Result, Ok, Err, refl, sym, ap, subst}
use Rattle.std.proofs.lemmas.Bool.{and_parts, eqb-true, eq-eqb}
use Rattle.std.specs.Option.{option_or}
use Rattle.std.specs.Prelude.{◌==◌, ◌&&◌, ◌↔◌, option_map, is_ok, is_some, OnOk, OnErr}
use Rattle.aes_block.specs.declared.secret.Secret.{Secret}
use Rattle.lan_base.specs.declared.address.Mi.{Mi}
use Rattle.lan_base.specs.declared.association_number.AssociationNumber.{AssociationNumber}
use Rattle.lan_base.specs.declared.key_id.KeyId.{KeyId}
use Rattle.lan_core.specs.declared.fact.Fact.{Fact}
use Rattle.lan_core.specs.declared.fact.Fact.TheVariants as shows
use Rattle.transcript_check.specs.declared.fault.CheckError.{CheckError}
use Rattle.transcript_check.specs.declared.fault.CheckError.TheVariants.{Refused, Memory}
use Rattle.transcript_check.specs.declared.fault.CheckFault.{CheckFault}
use Rattle.transcript_check.specs.declared.fault.CheckFault.TheVariants.{Doubled, Orphan}
use Rattle.transcript_check.specs.Judged.{sak_here, sak_in}
use Rattle.transcript_check.specs.Standing.{Saks, AreSaksOf, sak_under, refusal, no_epoch}
use Rattle.transcript_check.specs.inside.Steps.{SakIsPut, Opens, Finds, Enters}
use Rattle.transcript_check.proofs.Ends.{sak-more, sak-with}
use Rattle.transcript_check.proofs.Telling.{pair_dec}

-- ---- one fact more

sak-here-is : (s epoch : ℕ) (id : KeyId) (an : AssociationNumber) (sak : Secret) (t e : ℕ) → t ≡ s → e ≡ epoch
    → sak_here t e (shows.Installed s id an epoch sak) ≡ Some sak
sak-here-is s epoch id an sak t e same too =
    rw (eq-eqb s t (sym same), eq-eqb epoch e (sym too)) refl

sak-here-not : (s epoch : ℕ) (id : KeyId) (an : AssociationNumber) (sak : Secret) (t e : ℕ) → ((t ≡ s) × (e ≡ epoch) → ⊥)
    → sak_here t e (shows.Installed s id an epoch sak) ≡ None
sak-here-not s epoch id an sak t e apart = go ((s == t) && (epoch == e)) refl
  where
    go : (b : Bool) → ((s == t) && (epoch == e)) ≡ b → cond b (Some sak) None ≡ None
    go true is = let both = and_parts (s == t) (epoch == e) is in
        absurd (apart (sym (eqb-true s t both.0), sym (eqb-true epoch e both.1)))
    go false is = refl

-- an install under an epoch that had none
pub saks-put : (facts : List Fact) (old new : Saks) (s epoch : ℕ) (an : AssociationNumber) (id : KeyId) (sak : Secret)
    → AreSaksOf facts old → sak_in facts s epoch ≡ None → SakIsPut s epoch sak old new
    → AreSaksOf (facts ++ shows.Installed s id an epoch sak ∷ []) new
saks-put facts old new s epoch an id sak are free put t e = at (pair_dec s epoch t e)
  where
    fact : Fact
    fact = shows.Installed s id an epoch sak

    at : ((t ≡ s) × (e ≡ epoch)) ⊎ ((t ≡ s) × (e ≡ epoch) → ⊥)
        → sak_under new t e ≡ sak_in (facts ++ fact ∷ []) t e
    at (inl same) =
        ap (λ t. sak_under new t e) same.0 ∙ ap (λ e. sak_under new s e) same.1 ∙ put.here
        ∙ sym (sak-more facts fact t e
        ∙ ap (option_or (sak_in facts t e)) (sak-here-is s epoch id an sak t e same.0 same.1)
        ∙ ap (λ o. option_or o (Some sak)) (ap (λ t. sak_in facts t e) same.0 ∙ ap (λ e. sak_in facts s e) same.1 ∙ free))
    at (inr apart) =
        put.others t e apart ∙ are t e
        ∙ sym (sak-with facts fact t e (sak-here-not s epoch id an sak t e apart))

-- a fact that is no install
pub saks-stay : (facts : List Fact) (fact : Fact) (saks : Saks) → AreSaksOf facts saks
    → ((s epoch : ℕ) → sak_here s epoch fact ≡ None) → AreSaksOf (facts ++ fact ∷ []) saks
saks-stay facts fact saks are none s epoch =
    are s epoch ∙ sym (sak-with facts fact s epoch (none s epoch))

-- ---- what is answered

-- a fact was taken or refused
pub record IsEntered (facts : List Fact) (fact : Fact) (new : Saks) (r : Result (Unit {0}) CheckError)
    : Type 0 where
  pub taken : OnOk r (AreSaksOf (facts ++ fact ∷ []) new)
  pub refused : (why : CheckFault) → (r ≡ Err (Refused why)) ↔ (refusal facts fact ≡ Some why)

-- an answer of no value
abbrev failed : CheckError → Result (Unit {0}) CheckError
failed error = Err error

free-ok : (facts : List Fact) (fact : Fact) (new : Saks) (r : Result (Unit {0}) CheckError)
    → is_ok r ≡ true → refusal facts fact ≡ None → AreSaksOf (facts ++ fact ∷ []) new
    → IsEntered facts fact new r
free-ok facts fact new (Ok u) ok free are = record {
  taken = are;
  refused = λ why. (λ e. absurd (cc e), λ e. absurd (cc (sym free ∙ e)));
}
free-ok facts fact new (Err error) ok free are = absurd (cc ok)

free-err : (facts : List Fact) (fact : Fact) (new : Saks) (error : CheckError) → error ≡ Memory
    → refusal facts fact ≡ None → IsEntered facts fact new (Err error)
free-err facts fact new error is free = record {
  taken = tt;
  refused = λ why. (
    λ e. absurd (cc (is, e)),
    λ e. absurd (cc (sym free ∙ e)),
  );
}

denied : (facts : List Fact) (fact : Fact) (new : Saks) (fault : CheckFault)
    (r : Result (Unit {0}) CheckError) → r ≡ failed (Refused fault) → refusal facts fact ≡ Some fault
    → IsEntered facts fact new r
denied facts fact new fault r is refuses =
    subst (λ r. IsEntered facts fact new r) (sym is) (record {
      taken = tt;
      refused = λ why. (
        λ e. refuses ∙ ap (λ f. Some f) (fault-same e),
        λ e. ap (λ f. failed (Refused f)) (some-fault (sym refuses ∙ e)),
      );
    })
  where
    fault-same : {a b : CheckFault} → failed (Refused a) ≡ failed (Refused b) → a ≡ b
    fault-same e = cc e

    some-fault : {a b : CheckFault} → Some a ≡ Some b → a ≡ b
    some-fault e = cc e

by-install : (facts : List Fact) (old new : Saks) (s epoch : ℕ) (an : AssociationNumber) (id : KeyId) (sak : Secret)
    → AreSaksOf facts old → (o : Option Secret) → sak_in facts s epoch ≡ o
    → (r : Result (Unit {0}) CheckError) → Opens s epoch sak old new o r
    → IsEntered facts (shows.Installed s id an epoch sak) new r
by-install facts old new s epoch an id sak are (Some before) there r step =
    denied facts (shows.Installed s id an epoch sak) new Doubled r step.0 (ap (option_map (λ _. Doubled)) there)
by-install facts old new s epoch an id sak are None free (Ok u) step =
    free-ok facts (shows.Installed s id an epoch sak) new (Ok u) refl (ap (option_map (λ _. Doubled)) free)
    (saks-put facts old new s epoch an id sak are free step)
by-install facts old new s epoch an id sak are None free (Err error) step =
    free-err facts (shows.Installed s id an epoch sak) new error step.0 (ap (option_map (λ _. Doubled)) free)

by-claim : (facts : List Fact) (saks : Saks) (s : ℕ) (an : AssociationNumber) (epoch pn : ℕ)
    → AreSaksOf facts saks → (o : Option Secret) → sak_in facts s epoch ≡ o
    → (r : Result (Unit {0}) CheckError) → Finds o r
    → IsEntered facts (shows.Claimed s an epoch pn) saks r
by-claim facts saks s an epoch pn are None none r step =
    denied facts (shows.Claimed s an epoch pn) saks Orphan r step (ap no_epoch none)
by-claim facts saks s an epoch pn are (Some sak) there r step =
    free-ok facts (shows.Claimed s an epoch pn) saks r step (ap no_epoch there)
    (saks-stay facts (shows.Claimed s an epoch pn) saks are (λ t e. refl))

-- a fact that neither installs nor claims
others : (facts : List Fact) (fact : Fact) (old new : Saks) (r : Result (Unit {0}) CheckError)
    → AreSaksOf facts old → (is_ok r ≡ true) × (new ≡ old) → refusal facts fact ≡ None
    → ((s epoch : ℕ) → sak_here s epoch fact ≡ None) → IsEntered facts fact new r
others facts fact old new r are step free none =
    free-ok facts fact new r step.0 free
    (saks-stay facts fact new (subst (λ saks. AreSaksOf facts saks) (sym step.1) are) none)

pub entered : (facts : List Fact) (fact : Fact) (old new : Saks) (r : Result (Unit {0}) CheckError)
    → AreSaksOf facts old → Enters fact old new r → IsEntered facts fact new r
entered facts (shows.Installed s id an epoch sak) old new r are step =
    by-install facts old new s epoch an id sak are (sak_in facts s epoch) refl r
    (subst (λ o. Opens s epoch sak old new o r) (are s epoch) step)
entered facts (shows.Claimed s an epoch pn) old new r are step =
    by-claim facts new s an epoch pn (subst (λ saks. AreSaksOf facts saks) (sym step.1) are)
    (sak_in facts s epoch) refl r (subst (λ o. Finds o r) (are s epoch) step.0)
entered facts other old new r are step =
    others facts other old new r are step refl (λ t e. refl)

-- ---- what an error leaves

opens-kept : (s epoch : ℕ) (sak : Secret) (old new : Saks) (o : Option Secret)
    (r : Result (Unit {0}) CheckError) → Opens s epoch sak old new o r → OnErr r (new ≡ old)
opens-kept s epoch sak old new o (Ok u) step = tt
opens-kept s epoch sak old new (Some before) (Err error) step = step.1
opens-kept s epoch sak old new None (Err error) step = step.1

same-kept : (old new : Saks) (r : Result (Unit {0}) CheckError) → new ≡ old → OnErr r (new ≡ old)
same-kept old new (Ok u) same = tt
same-kept old new (Err error) same = same

pub enters-kept : (fact : Fact) (old new : Saks) (r : Result (Unit {0}) CheckError)
    → Enters fact old new r → OnErr r (new ≡ old)
enters-kept (shows.Installed s id an epoch sak) old new r step =
    opens-kept s epoch sak old new (sak_under old s epoch) r step
enters-kept _ old new r step = same-kept old new r step.1

pub enters-life : (fact : Fact) (old new : Saks) (r : Result (Unit {0}) CheckError) (s : ℕ) (mi : Mi)
    → Enters fact old new r → fact ≡ shows.Life s mi → is_ok r ≡ true
enters-life fact old new r s mi step is =
    let life : Enters (shows.Life s mi) old new r = subst (λ f. Enters f old new r) is step in life.0

-- ---- what is found

pub no-sak : (o : Option Secret) → is_some o ≡ false → o ≡ None
no-sak None e = refl
no-sak (Some x) e = absurd (cc e)
