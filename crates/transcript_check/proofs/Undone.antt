-- An entry that is put into a map and taken out again leaves the map as it was.
use Rattle.std.proofs.Common.{◌≡◌, ◌∙◌, ℕ, Bool, true, false, cond, List, [], ◌∷◌, Option, Some, None, Ok, Err, refl, sym, ap, subst}
use Rattle.std.specs.Map.{lookup, remove_entry}
use Rattle.aes_block.specs.declared.secret.Secret.{Secret}
use Rattle.aes_block.specs.declared.secret.Secret.TheVariants.{S128, S256}
use Rattle.lan_base.specs.declared.key_id.KeyId.{KeyId}
use Rattle.transcript_check.specs.declared.named.Named.{Named}
use Rattle.transcript_check.specs.declared.fault.CheckError.TheVariants.{Memory}
use Rattle.transcript_check.specs.Standing.{Maps, Saks, octets_under, pair_cmp, sak_at, sak_under}
use Rattle.transcript_check.specs.inside.Steps.{Installs, Opens, SakIsPut, with_sak, without_sak}
use Rattle.transcript_check.proofs.Puts.{neither}
use Rattle.std.specs.BTreeMap.{insert_entry, is_at}
use Rattle.std.specs.Ordering.{is_eq, match_ordering, nat_cmp}
use Rattle.std.specs.Cmp.{nat_cmp_is}
use Rattle.std.specs.declared.cmp.Ordering.{Ordering}
use Rattle.std.specs.declared.cmp.Ordering.TheVariants.{Less, Equal, Greater}

module _ {K : Type 0} (cmp : K → K → Ordering) (k : K) (same : cmp k k ≡ Equal) where
  at-itself : is_at (cmp k) k ≡ true
  at-itself = ap is_eq same

  pub undone : {X : Type 0} (x : X) (es : List (K × X)) → lookup (is_at (cmp k)) es ≡ None
      → remove_entry (is_at (cmp k)) (insert_entry cmp es k x) ≡ es
  undone x [] absent = ap (λ b. cond b [] ((k, x) ∷ [])) at-itself
  undone x (e ∷ es) absent = go (cmp k e.0) refl (undone x es)
    where
      first : remove_entry (is_at (cmp k)) ((k, x) ∷ e ∷ es) ≡ e ∷ es
      first = ap (λ b. cond b (e ∷ es) ((k, x) ∷ remove_entry (is_at (cmp k)) (e ∷ es))) at-itself

      go : (o : Ordering) → cmp k e.0 ≡ o
          → (lookup (is_at (cmp k)) es ≡ None
          → remove_entry (is_at (cmp k)) (insert_entry cmp es k x) ≡ es)
          → remove_entry (is_at (cmp k))
          (match_ordering o ((k, x) ∷ e ∷ es) ((e.0, x) ∷ es) (e ∷ insert_entry cmp es k x))
          ≡ e ∷ es
      go Less is later = first
      go Equal is later =
          absurd (cc (sym (ap (λ o. cond (is_eq o) (Some e.1) (lookup (is_at (cmp k)) es)) is) ∙ absent))
      go Greater is later =
          ap (λ o. cond (is_eq o) (insert_entry cmp es k x)
          (e ∷ remove_entry (is_at (cmp k)) (insert_entry cmp es k x))) is
          ∙ ap (λ es. e ∷ es)
          (later (sym (ap (λ o. cond (is_eq o) (Some e.1) (lookup (is_at (cmp k)) es)) is) ∙ absent))

  -- what is not there is not taken out
  pub idle : {X : Type 0} (es : List (K × X)) → lookup (is_at (cmp k)) es ≡ None
      → remove_entry (is_at (cmp k)) es ≡ es
  idle [] absent = refl
  idle (e ∷ es) absent = go (is_at (cmp k) e.0) refl (idle es)
    where
      go : (b : Bool) → is_at (cmp k) e.0 ≡ b
          → (lookup (is_at (cmp k)) es ≡ None → remove_entry (is_at (cmp k)) es ≡ es)
          → remove_entry (is_at (cmp k)) (e ∷ es) ≡ e ∷ es
      go true is later =
          absurd (cc (sym (ap (λ b. cond b (Some e.1) (lookup (is_at (cmp k)) es)) is) ∙ absent))
      go false is later =
          ap (λ b. cond b es (e ∷ remove_entry (is_at (cmp k)) es)) is
          ∙ ap (λ es. e ∷ es)
          (later (sym (ap (λ b. cond b (Some e.1) (lookup (is_at (cmp k)) es)) is) ∙ absent))

nat-itself : (n : ℕ) → nat_cmp n n ≡ Equal
nat-itself n = sym (nat_cmp_is n n Equal refl)

pair-itself : (s epoch : ℕ) → pair_cmp (s, epoch) (s, epoch) ≡ Equal
pair-itself s epoch = rw (nat-itself s, nat-itself epoch) refl

-- what was found where a SAK was put
opened : (s epoch : ℕ) (sak : Secret) (old new : Saks) (o : Option Secret) (u : Unit {0})
    → Opens s epoch sak old new o (Ok u) → (o ≡ None) × SakIsPut s epoch sak old new
opened s epoch sak old new (Some before) u step = absurd (cc step.0)
opened s epoch sak old new None u step = (refl, step)

-- a SAK that is put and taken out again
sak-undone : (s epoch : ℕ) (sak : Secret) (saks : Saks) → sak_under saks s epoch ≡ None
    → without_sak (with_sak saks s epoch sak) s epoch ≡ saks
sak-undone s epoch (S128 octets) saks none =
    let parts = neither (octets_under saks.narrow s epoch) (octets_under saks.wide s epoch) none in
    λ i. record {
      narrow = undone pair_cmp (s, epoch) (pair-itself s epoch) octets saks.narrow parts.0 i;
      wide = idle pair_cmp (s, epoch) (pair-itself s epoch) saks.wide parts.1 i;
    }
sak-undone s epoch (S256 octets) saks none =
    let parts = neither (octets_under saks.narrow s epoch) (octets_under saks.wide s epoch) none in
    λ i. record {
      narrow = idle pair_cmp (s, epoch) (pair-itself s epoch) saks.narrow parts.0 i;
      wide = undone pair_cmp (s, epoch) (pair-itself s epoch) octets saks.wide parts.1 i;
    }

-- a SAK was put, and then, for want of memory, taken out again: so the install leaves all as it was
pub install-undone : (number s epoch : ℕ) (id : KeyId) (named : Named) (old middle : Maps) (put out : Saks)
    (u : Unit {0}) → Opens s epoch named.sak old.epochs put (sak_under old.epochs s epoch) (Ok u)
    → middle ≡ record old { epochs = put }
    → out ≡ without_sak middle.epochs s epoch
    → Installs number s epoch id named old (record middle { epochs = out }) (sak_at old s epoch) (Err Memory)
install-undone number s epoch id named old middle put out u step same taken =
    let was = opened s epoch named.sak old.epochs put (sak_under old.epochs s epoch) u step in
    let back : record middle { epochs = out } ≡ old =
    ap (λ (es : Saks). record middle { epochs = es }) taken
    ∙ ap (λ (m : Maps). record m { epochs = without_sak m.epochs s epoch }) same
    ∙ ap (λ (es : Saks). record old { epochs = without_sak es s epoch }) was.1.entries
    ∙ ap (λ (es : Saks). record old { epochs = es }) (sak-undone s epoch named.sak old.epochs was.0) in
    subst (λ o. Installs number s epoch id named old (record middle { epochs = out }) o (Err Memory))
    (sym was.0) (refl, back)
