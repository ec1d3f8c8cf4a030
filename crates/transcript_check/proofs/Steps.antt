-- One fact more is judged.
use Rattle.std.proofs.Common.{◌≡◌, ◌≢◌, ◌∙◌, ◌≤◌, ◌+◌, ◌⊎◌, inl, inr, ℕ, suc, Bool, true, false, cond, List, [], ◌∷◌, ◌++◌, length, Option, Some, None, Result, Ok, Err, min, refl, sym, ap, subst, arith}
use Rattle.std.specs.Prelude.{option_map, is_some, is_ok, IsTrue}
use Rattle.aes_block.specs.declared.secret.Secret.{Secret}
use Rattle.lan_base.specs.declared.association_number.AssociationNumber.{AssociationNumber}
use Rattle.lan_base.specs.declared.key_id.KeyId.{KeyId}
use Rattle.lan_core.specs.declared.fact.Fact.{Fact}
use Rattle.lan_core.specs.declared.fact.Fact.TheVariants as shows
use Rattle.transcript_reader.specs.Forms.{station_of}
use Rattle.transcript_check.specs.declared.named.Named.{Named}
use Rattle.transcript_check.specs.declared.fault.CheckError.{CheckError}
use Rattle.transcript_check.specs.declared.fault.CheckFault.TheVariants.{Doubled}
use Rattle.least_pairs.specs.Pairs.{Noted, Breaks, IsJudged, IsFound, IsOneMore}
use Rattle.transcript_check.specs.Judged.{BreaksOnce, BreaksOneKey, fact_at, sak_here, sak_in, Use, use_of, uses, named_by, names, never, same_named, is_missed, missed_in}
use Rattle.transcript_check.specs.Standing.{Maps, IsBound, StandsFor, AreSaksOf, IsOfEpoch, sak_at, first_of, line_by, line_of, refusal, no_epoch}
use Rattle.transcript_check.specs.inside.Steps.{KeyIsPut, UseIsPut, IsNamed, IsUsed, IsInstalled, Installs, Claims, Takes, IsFailed}
use Rattle.least_pairs.proofs.Public.{KeepsFirsts, some-same, nat_dec, still, agreeing, first-told, found-stays, broken-now, found-is, found-again, found-first}
use Rattle.transcript_check.proofs.Bound.{first-stays, install-bound}
use Rattle.transcript_check.proofs.Ends.{at-last, at-other, goes-by, sak-stays, sak-with, use-stays, missed-more, missed-within}
use Rattle.transcript_check.proofs.Saks.{saks-put, saks-stay}
use Rattle.transcript_check.proofs.Telling.{Told, id_dec, use_dec, named-itself, named-joins}

-- ---- keys

key-found : (number : ℕ) (id : KeyId) (named : Named) (m new : Maps) (f g : Noted KeyId Named) (n : ℕ)
    → IsOneMore KeyId Named f g n (Some (id, named)) → number ≡ n
    → KeyIsPut number id named m new → first_of m id ≡ None
    → ((k : KeyId) → IsFound KeyId Named f k (first_of m k))
    → (k : KeyId) → IsFound KeyId Named g k (first_of new k)
key-found number id named m new f g n go is put none was k = by-key (id_dec k id)
  where
    by-key : Told k id → IsFound KeyId Named g k (first_of new k)
    by-key (inl e) =
        subst (λ j. IsFound KeyId Named g j (first_of new j)) (sym e)
        (subst (λ o. IsFound KeyId Named g id o) (ap (λ j. Some (j, named)) (sym is) ∙ sym put.here)
        (found-first KeyId Named same_named f g n id named go
        (subst (λ o. IsFound KeyId Named f id o) none (was id))))
    by-key (inr apart) =
        subst (λ o. IsFound KeyId Named g k o) (sym (put.others k apart))
        (found-is KeyId Named same_named f g n (Some (id, named)) go k
        (λ v e. apart (sym (ap (λ (p : KeyId × Named). p.0) (some-same e)))) (first_of m k) (was k))

key-same : (id : KeyId) (named : Named) (nv : ℕ × Named) (m : Maps) (f g : Noted KeyId Named) (n : ℕ)
    → IsOneMore KeyId Named f g n (Some (id, named))
    → first_of m id ≡ Some nv
    → ((k : KeyId) → IsFound KeyId Named f k (first_of m k))
    → (k : KeyId) → IsFound KeyId Named g k (first_of m k)
key-same id named nv m f g n go there was k = by-key (id_dec k id)
  where
    by-key : Told k id → IsFound KeyId Named g k (first_of m k)
    by-key (inl e) =
        subst (λ j. IsFound KeyId Named g j (first_of m j)) (sym e)
        (subst (λ o. IsFound KeyId Named g id o) (sym there)
        (found-again KeyId Named same_named f g n (Some (id, named)) go id nv
        (subst (λ o. IsFound KeyId Named f id o) there (was id))))
    by-key (inr apart) =
        found-is KeyId Named same_named f g n (Some (id, named)) go k
        (λ v e. apart (sym (ap (λ (p : KeyId × Named). p.0) (some-same e)))) (first_of m k) (was k)

pub key-step : (number : ℕ) (id : KeyId) (named : Named) (m new : Maps) (f g : Noted KeyId Named) (n : ℕ)
    → IsOneMore KeyId Named f g n (Some (id, named)) → number ≡ n
    → (o : Option (ℕ × ℕ)) → m.one_key ≡ o → (p : Option (ℕ × Named)) → first_of m id ≡ p
    → IsNamed number id named m new o p
    → KeepsFirsts KeyId Named same_named f m.one_key (first_of m)
    → KeepsFirsts KeyId Named same_named g new.one_key (first_of new)
key-step number id named m new f g n go is (Some pair) broken p there step was =
    subst (λ (w : Maps). KeepsFirsts KeyId Named same_named g w.one_key (first_of w)) (sym step) (
      subst (λ o. IsJudged (Breaks KeyId Named same_named g) o) (sym broken)
          (found-stays KeyId Named same_named f g n (Some (id, named)) go pair
          (subst (λ o. IsJudged (Breaks KeyId Named same_named f) o) broken was.0)),
      λ e. absurd (cc (e, broken)),
    )
key-step number id named m new f g n go is None whole None there put was = (
  subst (λ o. IsJudged (Breaks KeyId Named same_named g) o) (sym (put.one_key ∙ whole))
      (first-told KeyId Named same_named f g n id named go
      (subst (λ o. IsFound KeyId Named f id o) there (was.1 whole id))
      (subst (λ o. IsJudged (Breaks KeyId Named same_named f) o) whole was.0)),
  λ e. key-found number id named m new f g n go is put there (was.1 whole),
)
key-step number id named m new f g n go is None whole (Some nv) there step was =
    by-same (same_named nv.1 named) refl
  where
    found : IsFound KeyId Named f id (Some nv)
    found = subst (λ o. IsFound KeyId Named f id o) there (was.1 whole id)

    unbroken : IsJudged (Breaks KeyId Named same_named f) None
    unbroken = subst (λ o. IsJudged (Breaks KeyId Named same_named f) o) whole was.0

    after : (b : Bool) → same_named nv.1 named ≡ b
        → new ≡ cond b m (record m { one_key = Some (nv.0, number) })
    after b e = step ∙ ap (λ b. cond b m (record m { one_key = Some (nv.0, number) })) e

    by-same : (b : Bool) → same_named nv.1 named ≡ b
        → KeepsFirsts KeyId Named same_named g new.one_key (first_of new)
    by-same true e =
        subst (λ (w : Maps). KeepsFirsts KeyId Named same_named g w.one_key (first_of w)) (sym (after true e)) (
          subst (λ o. IsJudged (Breaks KeyId Named same_named g) o) (sym whole)
              (agreeing KeyId Named same_named named-joins
              (λ u v s. subst (λ x. same_named u x ≡ true) s (named-itself u)) f g n id named go nv found e unbroken),
          λ s. key-same id named nv m f g n go there (was.1 whole),
        )
    by-same false e =
        subst (λ (w : Maps). KeepsFirsts KeyId Named same_named g w.one_key (first_of w)) (sym (after false e)) (
          subst (λ j. IsJudged (Breaks KeyId Named same_named g) (Some (nv.0, j))) (sym is)
              (broken-now KeyId Named same_named f g n id named go unbroken nv found e),
          λ s. absurd (cc s),
        )

-- ---- packet numbers

abbrev with_unit : Option ℕ → Option (ℕ × Unit {0})
with_unit o = option_map (λ n. (n, tt)) o

abbrev the_use : ℕ → ℕ → Secret → Use
the_use s pn sak = record { station = s; sak = sak; pn = pn }

use-found : (number s pn : ℕ) (sak : Secret) (m new : Maps) (f g : Noted Use (Unit {0})) (n : ℕ)
    → IsOneMore Use (Unit {0}) f g n (Some (the_use s pn sak, tt)) → number ≡ n
    → UseIsPut number s pn sak m new → line_by m s pn sak ≡ None
    → ((k : Use) → IsFound Use (Unit {0}) f k (line_of m k))
    → (k : Use) → IsFound Use (Unit {0}) g k (line_of new k)
use-found number s pn sak m new f g n go is put none was k = by-key (use_dec k (the_use s pn sak))
  where
    by-key : Told k (the_use s pn sak) → IsFound Use (Unit {0}) g k (line_of new k)
    by-key (inl e) =
        subst (λ j. IsFound Use (Unit {0}) g j (line_of new j)) (sym e)
        (subst (λ o. IsFound Use (Unit {0}) g (the_use s pn sak) o)
        (ap (λ j. Some (j, tt)) (sym is) ∙ ap with_unit (sym put.here))
        (found-first Use (Unit {0}) never f g n (the_use s pn sak) tt go
        (subst (λ o. IsFound Use (Unit {0}) f (the_use s pn sak) o) (ap with_unit none)
        (was (the_use s pn sak)))))
    by-key (inr apart) =
        subst (λ o. IsFound Use (Unit {0}) g k o)
        (ap with_unit (sym (put.others k.station k.pn k.sak
        (λ p. apart (λ t. record { station = p.0 t; sak = p.2 t; pn = p.1 t })))))
        (found-is Use (Unit {0}) never f g n (Some (the_use s pn sak, tt)) go k
        (λ v e. apart (sym (ap (λ (p : Use × Unit {0}). p.0) (some-same e)))) (line_of m k) (was k))

pub use-step : (number s pn : ℕ) (sak : Secret) (m new : Maps) (f g : Noted Use (Unit {0})) (n : ℕ)
    → IsOneMore Use (Unit {0}) f g n (Some (the_use s pn sak, tt)) → number ≡ n
    → (o : Option (ℕ × ℕ)) → m.once ≡ o → (p : Option ℕ) → line_by m s pn sak ≡ p
    → IsUsed number s pn sak m new o p
    → KeepsFirsts Use (Unit {0}) never f m.once (line_of m)
    → KeepsFirsts Use (Unit {0}) never g new.once (line_of new)
use-step number s pn sak m new f g n go is (Some pair) broken p there step was =
    subst (λ (w : Maps). KeepsFirsts Use (Unit {0}) never g w.once (line_of w)) (sym step) (
      subst (λ o. IsJudged (Breaks Use (Unit {0}) never g) o) (sym broken)
          (found-stays Use (Unit {0}) never f g n (Some (the_use s pn sak, tt)) go pair
          (subst (λ o. IsJudged (Breaks Use (Unit {0}) never f) o) broken was.0)),
      λ e. absurd (cc (e, broken)),
    )
use-step number s pn sak m new f g n go is None whole None there put was = (
  subst (λ o. IsJudged (Breaks Use (Unit {0}) never g) o) (sym (put.once ∙ whole))
      (first-told Use (Unit {0}) never f g n (the_use s pn sak) tt go
      (subst (λ o. IsFound Use (Unit {0}) f (the_use s pn sak) o) (ap with_unit there)
      (was.1 whole (the_use s pn sak)))
      (subst (λ o. IsJudged (Breaks Use (Unit {0}) never f) o) whole was.0)),
  λ e. use-found number s pn sak m new f g n go is put there (was.1 whole),
)
use-step number s pn sak m new f g n go is None whole (Some line) there step was =
    subst (λ (w : Maps). KeepsFirsts Use (Unit {0}) never g w.once (line_of w)) (sym step) (
      subst (λ j. IsJudged (Breaks Use (Unit {0}) never g) (Some (line, j))) (sym is)
          (broken-now Use (Unit {0}) never f g n (the_use s pn sak) tt go
          (subst (λ o. IsJudged (Breaks Use (Unit {0}) never f) o) whole was.0) (line, tt)
          (subst (λ o. IsFound Use (Unit {0}) f (the_use s pn sak) o) (ap with_unit there)
          (was.1 whole (the_use s pn sak))) refl),
      λ e. absurd (cc e),
    )

-- ---- a fact

-- what stands for the facts, but for the count, while a fact is taken
abbrev Uses : List Fact → Maps → Type 0
Uses facts m = KeepsFirsts Use (Unit {0}) never (uses facts) m.once (line_of m)

abbrev Keys : List Fact → Maps → Type 0
Keys facts m = KeepsFirsts KeyId Named same_named (names facts) m.one_key (first_of m)

abbrev pub with_count : ℕ → Maps → Maps
with_count n m = record m { count = n }

use-goes : (facts : List Fact) (fact : Fact) (m : Maps) → StandsFor facts m
    → IsOneMore Use (Unit {0}) (uses facts) (uses (facts ++ fact ∷ [])) (suc (length facts))
    (use_of (facts ++ fact ∷ []) fact)
use-goes facts fact m stands =
    goes-by Use (Unit {0}) never (use_of facts) (use_of (facts ++ fact ∷ [])) facts fact
    (λ k f e. use-stays facts fact f (stands.known k f e))

key-goes : (facts : List Fact) (fact : Fact)
    → IsOneMore KeyId Named (names facts) (names (facts ++ fact ∷ [])) (suc (length facts)) (named_by fact)
key-goes facts fact = goes-by KeyId Named same_named named_by named_by facts fact (λ k f e. refl)

of-epoch-stays : (facts : List Fact) (fact f : Fact) → IsOfEpoch facts f → IsOfEpoch (facts ++ fact ∷ []) f
of-epoch-stays facts fact (shows.Claimed s an epoch pn) known =
    subst (λ o. IsTrue (is_some o)) (sym (sak-stays facts fact s epoch known)) known
of-epoch-stays facts fact _ known = tt

known-more : (facts : List Fact) (fact : Fact) (m : Maps) → StandsFor facts m → IsOfEpoch facts fact
    → (number : ℕ) (f : Fact) → fact_at (facts ++ fact ∷ []) number ≡ Some f
    → IsOfEpoch (facts ++ fact ∷ []) f
known-more facts fact m stands this number f e = go (nat_dec number (suc (length facts)))
  where
    go : (number ≡ suc (length facts)) ⊎ (number ≢ suc (length facts)) → IsOfEpoch (facts ++ fact ∷ []) f
    go (inl last) =
        let same : fact ≡ f = some-same (sym (at-last facts fact)
        ∙ ap (fact_at (facts ++ fact ∷ [])) (sym last) ∙ e) in
        of-epoch-stays facts fact f (subst (λ x. IsOfEpoch facts x) same this)
    go (inr apart) =
        of-epoch-stays facts fact f (stands.known number f (sym (at-other facts fact number apart) ∙ e))

length-more : (facts : List Fact) (fact : Fact) → suc (length facts) ≡ length (facts ++ fact ∷ [])
length-more [] fact = refl
length-more (f ∷ facts) fact = ap suc (length-more facts fact)

-- a fact that changes nothing but what was missed
pub passes : (facts : List Fact) (fact : Fact) (old new : Maps) (number missed : ℕ)
    → StandsFor facts old → number ≡ suc (length facts)
    → named_by fact ≡ None → use_of (facts ++ fact ∷ []) fact ≡ None
    → ((s epoch : ℕ) → sak_here s epoch fact ≡ None) → IsOfEpoch facts fact
    → missed ≡ missed_in facts + cond (is_missed fact) 1 0
    → new ≡ record old { missed = missed }
    → StandsFor (facts ++ fact ∷ []) (with_count number new)
passes facts fact old new number missed stands is no_key no_use no_epoch this count step =
    subst (λ (w : Maps). StandsFor (facts ++ fact ∷ []) (with_count number w)) (sym step)
    (record {
      count = is ∙ length-more facts fact;
      missed = count ∙ sym (missed-more facts fact);
      once = kept_uses.0;
      one_key = kept_keys.0;
      epochs = saks-stay facts fact old.epochs stands.epochs no_epoch;
      keys = kept_keys.1;
      uses = kept_uses.1;
      known = known-more facts fact old stands this;
      bound = stands.bound;
    })
  where
    kept_uses : Uses (facts ++ fact ∷ []) old
    kept_uses = still Use (Unit {0}) never (uses facts) (uses (facts ++ fact ∷ [])) (suc (length facts))
        (subst (λ o. IsOneMore Use (Unit {0}) (uses facts) (uses (facts ++ fact ∷ [])) (suc (length facts)) o)
        no_use (use-goes facts fact old stands)) old.once (line_of old) (stands.once, stands.uses)

    kept_keys : Keys (facts ++ fact ∷ []) old
    kept_keys = still KeyId Named same_named (names facts) (names (facts ++ fact ∷ [])) (suc (length facts))
        (subst (λ o. IsOneMore KeyId Named (names facts) (names (facts ++ fact ∷ [])) (suc (length facts)) o)
        no_key (key-goes facts fact)) old.one_key (first_of old) (stands.one_key, stands.keys)

-- ---- an install

lookup-same : (old m : Maps) → m.epochs ≡ old.epochs → m.keys ≡ old.keys → (id : KeyId)
    → first_of m id ≡ first_of old id
lookup-same old m epochs keys id =
    λ i. first_of (record old { epochs = epochs i; keys = keys i }) id

line-same : (old m : Maps) → m.narrow ≡ old.narrow → m.wide ≡ old.wide → m.aside ≡ old.aside
    → (s pn : ℕ) (sak : Secret) → line_by m s pn sak ≡ line_by old s pn sak
line-same old m narrow wide aside s pn sak =
    λ i. line_by (record old { narrow = narrow i; wide = wide i; aside = aside i }) s pn sak

-- what a naming leaves
record Leaves (m new : Maps) : Type 0 where
  missed : new.missed ≡ m.missed
  once : new.once ≡ m.once
  epochs : new.epochs ≡ m.epochs
  narrow : new.narrow ≡ m.narrow
  wide : new.wide ≡ m.wide
  aside : new.aside ≡ m.aside
  bound : IsBound m → IsBound new

left-all : (m : Maps) → Leaves m m
left-all m = record {
  missed = refl;
  once = refl;
  epochs = refl;
  narrow = refl;
  wide = refl;
  aside = refl;
  bound = λ b. b;
}

leaves : (number : ℕ) (id : KeyId) (named : Named) (m new : Maps) (o : Option (ℕ × ℕ))
    (p : Option (ℕ × Named)) → IsNamed number id named m new o p → Leaves m new
leaves number id named m new (Some pair) p step = subst (λ w. Leaves m w) (sym step) (left-all m)
leaves number id named m new None None put = record {
  missed = put.missed;
  once = put.once;
  epochs = put.epochs;
  narrow = put.narrow;
  wide = put.wide;
  aside = put.aside;
  bound = put.bound;
}
leaves number id named m new None (Some nv) step =
    subst (λ w. Leaves m w) (sym step) (go (same_named nv.1 named))
  where
    go : (b : Bool) → Leaves m (cond b m (record m { one_key = Some (nv.0, number) }))
    go true = left-all m
    go false = record {
      missed = refl;
      once = refl;
      epochs = refl;
      narrow = refl;
      wide = refl;
      aside = refl;
      bound = λ b. b;
    }

pub installs : (facts : List Fact) (old new : Maps) (number s epoch : ℕ) (an : AssociationNumber) (id : KeyId) (sak : Secret)
    → StandsFor facts old → number ≡ suc (length facts) → sak_in facts s epoch ≡ None
    → IsInstalled number s epoch id (record { an = an; sak = sak }) old new
    → StandsFor (facts ++ shows.Installed s id an epoch sak ∷ []) (with_count number new)
installs facts old new number s epoch an id sak stands is free step = record {
  count = is ∙ length-more facts fact;
  missed = left.missed ∙ stands.missed ∙ more ∙ sym (missed-more facts fact);
  once = subst (λ o. IsJudged (BreaksOnce (facts ++ fact ∷ [])) o) (sym left.once) kept_uses.0;
  one_key = kept_keys.0;
  epochs = subst (λ es. AreSaksOf (facts ++ fact ∷ []) es) (sym left.epochs)
      (saks-put facts old.epochs step.saks s epoch an id sak stands.epochs free step.epoch_put);
  keys = kept_keys.1;
  uses = λ none u. subst (λ o. IsFound Use (Unit {0}) (uses (facts ++ fact ∷ [])) u o)
      (ap with_unit (sym (line-same old new left.narrow left.wide left.aside u.station u.pn u.sak)))
      (kept_uses.1 (sym left.once ∙ none) u);
  known = known-more facts fact old stands tt;
  bound = left.bound (install-bound old step.saks s epoch sak stands.bound none step.epoch_put);
}
  where
    fact : Fact
    fact = shows.Installed s id an epoch sak

    m : Maps
    m = record old { epochs = step.saks }

    none : sak_at old s epoch ≡ None
    none = stands.epochs s epoch ∙ free

    left : Leaves m new
    left = leaves number id (record { an = an; sak = sak }) m new old.one_key (first_of m id) step.names_it

    more : missed_in facts ≡ missed_in facts + 0
    more = omega arith

    kept_uses : Uses (facts ++ fact ∷ []) old
    kept_uses = still Use (Unit {0}) never (uses facts) (uses (facts ++ fact ∷ [])) (suc (length facts))
        (use-goes facts fact old stands) old.once (line_of old) (stands.once, stands.uses)

    were : old.one_key ≡ None → (k : KeyId) → IsFound KeyId Named (names facts) k (first_of m k)
    were whole k = subst (λ o. IsFound KeyId Named (names facts) k o)
        (sym (first-stays old step.saks s epoch sak stands.bound none step.epoch_put k))
        (stands.keys whole k)

    kept_keys : Keys (facts ++ fact ∷ []) new
    kept_keys = key-step number id (record { an = an; sak = sak }) m new (names facts)
        (names (facts ++ fact ∷ [])) (suc (length facts)) (key-goes facts fact) is old.one_key refl
        (first_of m id) refl step.names_it (stands.one_key, were)

-- ---- a claim

record Spares (m new : Maps) : Type 0 where
  missed : new.missed ≡ m.missed
  one_key : new.one_key ≡ m.one_key
  epochs : new.epochs ≡ m.epochs
  keys : new.keys ≡ m.keys
  bound : IsBound m → IsBound new

spares : (number s pn : ℕ) (sak : Secret) (m new : Maps) (o : Option (ℕ × ℕ)) (p : Option ℕ)
    → IsUsed number s pn sak m new o p → Spares m new
spares number s pn sak m new (Some pair) p step =
    subst (λ w. Spares m w) (sym step)
    (record { missed = refl; one_key = refl; epochs = refl; keys = refl; bound = λ b. b })
spares number s pn sak m new None None put =
    record {
      missed = put.missed;
      one_key = put.one_key;
      epochs = put.epochs;
      keys = put.keys;
      bound = λ b. put.bound;
    }
spares number s pn sak m new None (Some line) step =
    subst (λ w. Spares m w) (sym step)
    (record { missed = refl; one_key = refl; epochs = refl; keys = refl; bound = λ b. b })

pub claims : (facts : List Fact) (old new : Maps) (number s : ℕ) (an : AssociationNumber) (epoch pn : ℕ) (sak : Secret)
    → StandsFor facts old → number ≡ suc (length facts) → sak_in facts s epoch ≡ Some sak
    → IsUsed number (station_of s) pn sak old new old.once (line_by old (station_of s) pn sak)
    → StandsFor (facts ++ shows.Claimed s an epoch pn ∷ []) (with_count number new)
claims facts old new number s an epoch pn sak stands is there step = record {
  count = is ∙ length-more facts fact;
  missed = left.missed ∙ stands.missed ∙ more ∙ sym (missed-more facts fact);
  once = kept_uses.0;
  one_key = subst (λ o. IsJudged (BreaksOneKey (facts ++ fact ∷ [])) o) (sym left.one_key) kept_keys.0;
  epochs = subst (λ es. AreSaksOf (facts ++ fact ∷ []) es) (sym left.epochs)
      (saks-stay facts fact old.epochs stands.epochs (λ t e. refl));
  keys = λ none k. subst (λ o. IsFound KeyId Named (names (facts ++ fact ∷ [])) k o)
      (sym (lookup-same old new left.epochs left.keys k)) (kept_keys.1 (sym left.one_key ∙ none) k);
  uses = kept_uses.1;
  known = known-more facts fact old stands (ap (λ o. is_some o) there);
  bound = left.bound stands.bound;
}
  where
    fact : Fact
    fact = shows.Claimed s an epoch pn

    left : Spares old new
    left = spares number (station_of s) pn sak old new old.once (line_by old (station_of s) pn sak) step

    more : missed_in facts ≡ missed_in facts + 0
    more = omega arith

    uses_this : use_of (facts ++ fact ∷ []) fact ≡ Some (the_use (station_of s) pn sak, tt)
    uses_this = ap (option_map (λ sak. (the_use (station_of s) pn sak, tt))) (sak-with facts fact s epoch refl ∙ there)

    kept_uses : Uses (facts ++ fact ∷ []) new
    kept_uses = use-step number (station_of s) pn sak old new (uses facts) (uses (facts ++ fact ∷ [])) (suc (length facts))
        (subst (λ o. IsOneMore Use (Unit {0}) (uses facts) (uses (facts ++ fact ∷ [])) (suc (length facts)) o)
        uses_this (use-goes facts fact old stands)) is old.once refl (line_by old (station_of s) pn sak) refl step
        (stands.once, stands.uses)

    kept_keys : Keys (facts ++ fact ∷ []) old
    kept_keys = still KeyId Named same_named (names facts) (names (facts ++ fact ∷ [])) (suc (length facts))
        (key-goes facts fact) old.one_key (first_of old) (stands.one_key, stands.keys)

-- ---- any fact

abbrev Noting : List Fact → Fact → ℕ → Maps → Maps → Result Unit CheckError → Type 0
Noting facts fact number old new (Ok _) =
    (refusal facts fact ≡ None) × StandsFor (facts ++ fact ∷ []) (with_count number new)
Noting facts fact number old new (Err error) = IsFailed facts fact error × (new ≡ old)

by-install : (facts : List Fact) (old new : Maps) (number s epoch : ℕ) (an : AssociationNumber) (id : KeyId) (sak : Secret)
    → StandsFor facts old → number ≡ suc (length facts)
    → (o : Option Secret) → sak_in facts s epoch ≡ o → (r : Result Unit CheckError)
    → Installs number s epoch id (record { an = an; sak = sak }) old new o r
    → Noting facts (shows.Installed s id an epoch sak) number old new r
by-install facts old new number s epoch an id sak stands is (Some before) there r step =
    subst (λ r. Noting facts (shows.Installed s id an epoch sak) number old new r) (sym step.0)
    (ap (option_map (λ _. Doubled)) there, step.1)
by-install facts old new number s epoch an id sak stands is None free (Ok u) step =
    (ap (option_map (λ _. Doubled)) free, installs facts old new number s epoch an id sak stands is free step)
by-install facts old new number s epoch an id sak stands is None free (Err error) step = (
  subst (IsFailed facts (shows.Installed s id an epoch sak)) (sym step.0)
      (ap (option_map (λ _. Doubled)) free),
  step.1,
)

by-claim : (facts : List Fact) (old new : Maps) (number s : ℕ) (an : AssociationNumber) (epoch pn : ℕ)
    → StandsFor facts old → number ≡ suc (length facts)
    → (o : Option Secret) → sak_in facts s epoch ≡ o → (r : Result Unit CheckError)
    → Claims number (station_of s) pn old new o r
    → Noting facts (shows.Claimed s an epoch pn) number old new r
by-claim facts old new number s an epoch pn stands is None none r step =
    subst (λ r. Noting facts (shows.Claimed s an epoch pn) number old new r) (sym step.0)
    (ap no_epoch none, step.1)
by-claim facts old new number s an epoch pn stands is (Some sak) there (Ok u) step =
    (ap no_epoch there, claims facts old new number s an epoch pn sak stands is there (step stands.bound))
by-claim facts old new number s an epoch pn stands is (Some sak) there (Err error) step =
    (subst (IsFailed facts (shows.Claimed s an epoch pn)) (sym step.0) (ap no_epoch there), step.1)

others : (facts : List Fact) (fact : Fact) (old new : Maps) (number missed : ℕ)
    → StandsFor facts old → number ≡ suc (length facts)
    → named_by fact ≡ None → use_of (facts ++ fact ∷ []) fact ≡ None
    → ((s epoch : ℕ) → sak_here s epoch fact ≡ None) → IsOfEpoch facts fact → refusal facts fact ≡ None
    → missed ≡ missed_in facts + cond (is_missed fact) 1 0
    → (r : Result Unit CheckError) → is_ok r ≡ true → new ≡ record old { missed = missed }
    → Noting facts fact number old new r
others facts fact old new number missed stands is a b c d e f (Ok u) ok step =
    (e, passes facts fact old new number missed stands is a b c d f step)
others facts fact old new number missed stands is a b c d e f (Err error) ok step = absurd (cc ok)

abbrev pub top : ℕ
top = 18446744073709551615

least-is : (a b : ℕ) → a ≤ b → min a b ≡ a
least-is a b less = omega (arith, less)

pub noted : (facts : List Fact) (fact : Fact) (old new : Maps) (number : ℕ) (r : Result Unit CheckError)
    → StandsFor facts old → number ≡ suc (length facts) → number ≤ top
    → Takes number fact old new r → Noting facts fact number old new r
noted facts (shows.Installed s id an epoch sak) old new number r stands is less step =
    by-install facts old new number s epoch an id sak stands is (sak_in facts s epoch) refl r
    (subst (λ o. Installs number s epoch id (record { an = an; sak = sak }) old new o r) (stands.epochs s epoch) step)
noted facts (shows.Claimed s an epoch pn) old new number r stands is less step =
    by-claim facts old new number s an epoch pn stands is (sak_in facts s epoch) refl r
    (subst (λ o. Claims number (station_of s) pn old new o r) (stands.epochs s epoch) step)
noted facts (shows.Arrived k s arrival) old new number r stands is less step =
    others facts (shows.Arrived k s arrival) old new number
    (min (old.missed + cond (is_missed (shows.Arrived k s arrival)) 1 0) top) stands is refl refl
    (λ s epoch. refl) tt refl (room (is_missed (shows.Arrived k s arrival))) r step.0 step.1
  where
    room : (b : Bool) → min (old.missed + cond b 1 0) top ≡ missed_in facts + cond b 1 0
    room true = let a = stands.missed in let w = missed-within facts in
        least-is (old.missed + 1) top (omega (arith, a, w, is, less)) ∙ ap (λ n. n + 1) a
    room false = let a = stands.missed in let w = missed-within facts in
        least-is (old.missed + 0) top (omega (arith, a, w, is, less)) ∙ ap (λ n. n + 0) a
noted facts other old new number r stands is less step =
    others facts other old new number old.missed stands is refl refl (λ t e. refl) tt refl
    (stands.missed ∙ (omega arith)) r step.0 step.1
