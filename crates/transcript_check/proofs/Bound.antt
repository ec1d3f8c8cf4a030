-- What the maps name by a station and an epoch stays of one SAK, and so each claim is found by its own.
use Rattle.std.proofs.Common.{◌≡◌, ◌≢◌, ◌∙◌, ◌⊎◌, inl, inr, ◌-◌, ℕ, Bool, true, false, cond, List, [], ◌∷◌, Option, Some, None, refl, sym, ap, subst, arith}
use Rattle.std.specs.Prelude.{option_and_then, option_map, is_some, IsTrue, nat_le, slice_get}
use Rattle.std.specs.Option.{option_or}
use Rattle.std.specs.Map.{lookup}
use Rattle.std.specs.BTreeMap.{is_at}
use Rattle.aes_block.specs.declared.secret.Secret.{Secret}
use Rattle.aes_block.specs.declared.secret.Secret.TheVariants.{S128, S256}
use Rattle.lan_base.specs.declared.key_id.KeyId.{KeyId}
use Rattle.least_pairs.proofs.Public.{some-same}
use Rattle.transcript_reader.specs.Forms.{station_of}
use Rattle.transcript_check.specs.declared.named.First.{First}
use Rattle.transcript_check.specs.declared.named.Named.{Named}
use Rattle.transcript_check.specs.Judged.{Use}
use Rattle.transcript_check.specs.Standing.{Maps, Lines, LinesBySak, Aside, Saks, IsBound, aside_at, first_of, fresh, id_cmp, in_run, key_at, line_by, line_in, own_by, said_first, sak_at, sak_under}
use Rattle.transcript_check.specs.inside.Steps.{SakIsPut, IsMore, OwnIsPut, LineIsKeptAt, UseIsKept}
use Rattle.transcript_check.proofs.Puts.{run-here, run-other}
use Rattle.transcript_check.proofs.Telling.{Told, use_dec, pair_dec}

none-some : {A : Type 0} {x : A} → None ≡ Some x → ⊥
none-some e = cc e

pub no-one : {A : Type 0} (o : Option A) → is_some o ≡ false → o ≡ None
no-one None e = refl
no-one (Some x) e = absurd (cc e)

-- ---- an install

module _ (old : Maps) (saks : Saks) (s epoch : ℕ) (sak : Secret) (b : IsBound old)
    (none : sak_at old s epoch ≡ None) (put : SakIsPut s epoch sak old.epochs saks) where
  -- a SAK that was installed stays
  stays : (t e : ℕ) → IsTrue (is_some (sak_at old t e)) → sak_under saks t e ≡ sak_at old t e
  stays t e some = go (pair_dec s epoch t e)
    where
      go : ((t ≡ s) × (e ≡ epoch)) ⊎ ((t ≡ s) × (e ≡ epoch) → ⊥) → sak_under saks t e ≡ sak_at old t e
      go (inl same) =
          let here : sak_at old t e ≡ None =
          ap (λ (t : ℕ). sak_at old t e) same.0 ∙ ap (λ (e : ℕ). sak_at old s e) same.1 ∙ none in
          absurd (cc (sym (ap (λ (o : Option Secret). is_some o) here) ∙ some))
      go (inr apart) = put.others t e apart

  pub first-stays : (id : KeyId) → first_of (record old { epochs = saks }) id ≡ first_of old id
  first-stays id = go (key_at old id) refl
    where
      go : (o : Option First) → key_at old id ≡ o
          → option_and_then (said_first saks) o ≡ option_and_then (said_first old.epochs) o
      go None e = refl
      go (Some first) e =
          ap (option_map (λ (k : Secret). said first k))
          (stays first.station first.epoch (b.installed id first e))
        where
          said : First → Secret → ℕ × Named
          said first k = (first.number, record { an = first.an; sak = k })

  pub install-bound : IsBound (record old { epochs = saks })
  install-bound = record {
    installed = λ id first e.
        let some = b.installed id first e in
        subst (λ (o : Option Secret). IsTrue (is_some o)) (sym (stays first.station first.epoch some)) some;
    owned = λ t other own e.
        let there = b.owned t other own e in
        (there.0, stays own.place own.epoch (ap (λ (o : Option Secret). is_some o) there.1) ∙ there.1);
    behind = b.behind;
  }

-- ---- a claim

abbrev the_use : ℕ → Secret → Use
the_use s sak = record { station = s; sak = sak; pn = 0 }

owner_dec : (t : ℕ) (other : Secret) (s : ℕ) (sak : Secret)
    → ((t ≡ s) × (other ≡ sak)) ⊎ ((t ≡ s) × (other ≡ sak) → ⊥)
owner_dec t other s sak = go (use_dec (the_use t other) (the_use s sak))
  where
    go : Told (the_use t other) (the_use s sak)
        → ((t ≡ s) × (other ≡ sak)) ⊎ ((t ≡ s) × (other ≡ sak) → ⊥)
    go (inl e) = inl (ap (λ (u : Use). u.station) e, ap (λ (u : Use). u.sak) e)
    go (inr n) = inr (λ p. n (λ i. record { station = p.0 i; sak = p.1 i; pn = 0 }))

-- under one SAK of a station there are these lines, and under others what there was
record OwnIsPutBy (s : ℕ) (sak : Secret) (own : Lines) (old new : Maps) : Type 0 where
  here : own_by new s sak ≡ Some own
  others : (t : ℕ) (other : Secret) → ((t ≡ s) × (other ≡ sak) → ⊥)
      → own_by new t other ≡ own_by old t other

narrow_by : (s : ℕ) (octets : List ℕ) (own : Lines) (old : Maps) (lines : LinesBySak) (now : Aside)
    → OwnIsPut (s, octets) own old.narrow lines
    → OwnIsPutBy s (S128 octets) own old (record old { narrow = lines; aside = now })
narrow_by s octets own old lines now put = record { here = put.here; others = go }
  where
    go : (t : ℕ) (other : Secret) → ((t ≡ s) × (other ≡ S128 octets) → ⊥)
        → own_by (record old { narrow = lines; aside = now }) t other ≡ own_by old t other
    go t (S128 xs) apart = put.others (t, xs) (λ same. apart (
      ap (λ (p : ℕ × List ℕ). p.0) same,
      ap (λ (p : ℕ × List ℕ). S128 p.1) same,
    ))
    go t (S256 xs) apart = refl

wide_by : (s : ℕ) (octets : List ℕ) (own : Lines) (old : Maps) (lines : LinesBySak) (now : Aside)
    → OwnIsPut (s, octets) own old.wide lines
    → OwnIsPutBy s (S256 octets) own old (record old { wide = lines; aside = now })
wide_by s octets own old lines now put = record { here = put.here; others = go }
  where
    go : (t : ℕ) (other : Secret) → ((t ≡ s) × (other ≡ S256 octets) → ⊥)
        → own_by (record old { wide = lines; aside = now }) t other ≡ own_by old t other
    go t (S256 xs) apart = put.others (t, xs) (λ same. apart (
      ap (λ (p : ℕ × List ℕ). p.0) same,
      ap (λ (p : ℕ × List ℕ). S256 p.1) same,
    ))
    go t (S128 xs) apart = refl

abbrev no_lines : List ℕ
no_lines = []

none-in : (pn number qn : ℕ) → qn ≢ pn → in_run pn (number ∷ []) qn ≡ None
none-in pn number qn apart = run-other pn [] pn number qn (omega arith) apart ∙ go (nat_le pn qn)
  where
    go : (b : Bool) → cond b (slice_get no_lines (qn - pn)) None ≡ None
    go true = refl
    go false = refl

-- the lines and those out of turn are others after, and nothing else is
module _ (place epoch pn number : ℕ) (sak : Secret) (old new : Maps) (b : IsBound old)
    (there : sak_at old place epoch ≡ Some sak) (saks : new.epochs ≡ old.epochs)
    (keys : new.keys ≡ old.keys) where
  abbrev s : ℕ
  s = station_of place

  sak-same : (t e : ℕ) → sak_at new t e ≡ sak_at old t e
  sak-same t e = ap (λ (es : Saks). sak_under es t e) saks

  installed-still : (id : KeyId) (first : First) → key_at new id ≡ Some first
      → IsTrue (is_some (sak_at new first.station first.epoch))
  installed-still id first e =
      subst (λ (o : Option Secret). IsTrue (is_some o)) (sym (sak-same first.station first.epoch))
      (b.installed id first
      (sym (ap (λ ks. lookup (is_at (id_cmp (id.server, id.number))) ks) keys) ∙ e))

  -- lines of this SAK
  lines-here : (t : ℕ) (other : Secret) → (t ≡ s) × (other ≡ sak) → (qn : ℕ)
      → line_by new s qn sak ≡ line_by old s qn sak → line_by new t qn other ≡ line_by old t qn other
  lines-here t other same qn e =
      ap (λ (t : ℕ). line_by new t qn other) same.0 ∙ ap (λ (k : Secret). line_by new s qn k) same.1 ∙ e
      ∙ sym (ap (λ (k : Secret). line_by old s qn k) same.1)
      ∙ sym (ap (λ (t : ℕ). line_by old t qn other) same.0)

  own-here : (m : Maps) (t : ℕ) (other : Secret) → (t ≡ s) × (other ≡ sak)
      → own_by m t other ≡ own_by m s sak
  own-here m t other same =
      ap (λ (t : ℕ). own_by m t other) same.0 ∙ ap (λ (k : Secret). own_by m s k) same.1

  -- the lines that stand under this SAK are of the station, and of this SAK
  abbrev IsOwned : Maps → ℕ → Secret → Lines → Type 0
  IsOwned m t other own = (station_of own.place ≡ t) × (sak_at m own.place own.epoch ≡ Some other)

  owned-here : (own : Lines) (t : ℕ) (other : Secret) → (t ≡ s) × (other ≡ sak) → (after : Lines)
      → own_by new s sak ≡ Some after → IsOwned old s sak after
      → own_by new t other ≡ Some own → IsOwned new t other own
  owned-here own t other same after here of e =
      let is : after ≡ own = some-same (sym here ∙ sym (own-here new t other same) ∙ e) in
      let so : IsOwned old s sak own = subst (λ (o : Lines). IsOwned old s sak o) is of in (
        so.0 ∙ sym same.0,
        sak-same own.place own.epoch ∙ so.1 ∙ ap (λ (k : Secret). Some k) (sym same.1),
      )

  owned-still : (own : Lines) (t : ℕ) (other : Secret) → IsOwned old t other own → IsOwned new t other own
  owned-still own t other is = (is.0, sak-same own.place own.epoch ∙ is.1)

  -- what is behind claims in turn
  abbrev IsBehind : Maps → ℕ → ℕ → Type 0
  IsBehind m t e =
      (k : Secret) × (own : Lines) × (own_by m (station_of t) k ≡ Some own) × (own.place ≡ t) × (own.epoch ≡ e)

  module _ (none : own_by old s sak ≡ None) (put : OwnIsPutBy s sak (fresh place epoch pn number) old new)
      (same_aside : new.aside ≡ old.aside) where
    -- no claim out of turn stands under an epoch of which there was none in turn
    stale : (qn : ℕ) → aside_at old.aside place epoch qn ≡ None
    stale qn = go (aside_at old.aside place epoch qn) refl
      where
        go : (o : Option ℕ) → aside_at old.aside place epoch qn ≡ o → o ≡ None
        go None e = refl
        go (Some line) e =
            let w = b.behind place epoch qn line e in
            let owned = b.owned s w.0 w.1 w.2 in
            let is : sak ≡ w.0 = some-same (sym there ∙ ap (λ (p : ℕ). sak_at old p epoch) (sym w.3)
            ∙ ap (λ (e : ℕ). sak_at old w.1.place e) (sym w.4) ∙ owned.1) in
            absurd (none-some (sym none ∙ ap (λ (k : Secret). own_by old s k) is ∙ w.2))

    aside-same : (t e qn : ℕ) → aside_at new.aside t e qn ≡ aside_at old.aside t e qn
    aside-same t e qn = ap (λ (now : Aside). aside_at now t e qn) same_aside

    opened-here : line_by new s pn sak ≡ Some number
    opened-here =
        ap (option_and_then (λ (own : Lines). line_in own new.aside pn)) put.here
        ∙ ap (λ (o : Option ℕ). option_or o (aside_at new.aside place epoch pn))
        (run-here pn [] pn number (omega arith))

    opened-rest : (qn : ℕ) → qn ≢ pn → line_by new s qn sak ≡ line_by old s qn sak
    opened-rest qn apart =
        ap (option_and_then (λ (own : Lines). line_in own new.aside qn)) put.here
        ∙ ap (λ (o : Option ℕ). option_or o (aside_at new.aside place epoch qn)) (none-in pn number qn apart)
        ∙ aside-same place epoch qn ∙ stale qn
        ∙ sym (ap (option_and_then (λ (own : Lines). line_in own old.aside qn)) none)

    opened-others : (t qn : ℕ) (other : Secret) → ((t ≡ s) × (qn ≡ pn) × (other ≡ sak) → ⊥)
        → line_by new t qn other ≡ line_by old t qn other
    opened-others t qn other apart = go (owner_dec t other s sak)
      where
        go : ((t ≡ s) × (other ≡ sak)) ⊎ ((t ≡ s) × (other ≡ sak) → ⊥)
            → line_by new t qn other ≡ line_by old t qn other
        go (inl same) =
            lines-here t other same qn (opened-rest qn (λ e. apart (same.0, e, same.1)))
        go (inr differ) =
            ap (option_and_then (λ (own : Lines). line_in own new.aside qn)) (put.others t other differ)
            ∙ ap (λ (now : Aside). option_and_then (λ (own : Lines). line_in own now qn) (own_by old t other))
            same_aside

    opened-bound : IsBound new
    opened-bound = record {
      installed = installed-still;
      owned = λ t other own e. owned t other own e (owner_dec t other s sak);
      behind = λ t e qn line x. behind t e qn line (sym (aside-same t e qn) ∙ x);
    }
      where
        owned : (t : ℕ) (other : Secret) (own : Lines) → own_by new t other ≡ Some own
            → ((t ≡ s) × (other ≡ sak)) ⊎ ((t ≡ s) × (other ≡ sak) → ⊥) → IsOwned new t other own
        owned t other own e (inl same) =
            owned-here own t other same (fresh place epoch pn number) put.here (refl, there) e
        owned t other own e (inr differ) =
            owned-still own t other (b.owned t other own (sym (put.others t other differ) ∙ e))

        behind : (t e qn line : ℕ) → aside_at old.aside t e qn ≡ Some line → IsBehind new t e
        behind t e qn line x = go (b.behind t e qn line x)
          where
            go : IsBehind old t e → IsBehind new t e
            go w = by (owner_dec (station_of t) w.0 s sak)
              where
                by : ((station_of t ≡ s) × (w.0 ≡ sak)) ⊎ ((station_of t ≡ s) × (w.0 ≡ sak) → ⊥)
                    → IsBehind new t e
                by (inl same) =
                    absurd (none-some (sym none ∙ sym (own-here old (station_of t) w.0 same) ∙ w.2))
                by (inr differ) = (w.0, w.1, put.others (station_of t) w.0 differ ∙ w.2, w.3, w.4)

  module _ (own after : Lines) (was : own_by old s sak ≡ Some own)
      (more : IsMore pn number own old.aside after new.aside) (put : OwnIsPutBy s sak after old new) where
    grown-here : line_by new s pn sak ≡ Some number
    grown-here =
        ap (option_and_then (λ (own : Lines). line_in own new.aside pn)) put.here ∙ more.here

    grown-rest : (qn : ℕ) → qn ≢ pn → line_by new s qn sak ≡ line_by old s qn sak
    grown-rest qn apart =
        ap (option_and_then (λ (own : Lines). line_in own new.aside qn)) put.here ∙ more.others qn apart
        ∙ sym (ap (option_and_then (λ (own : Lines). line_in own old.aside qn)) was)

    own-owned : IsOwned old s sak own
    own-owned = b.owned s sak own was

    -- lines under another SAK are under another place and epoch
    other-epoch : (t : ℕ) (other : Secret) (that : Lines) → ((t ≡ s) × (other ≡ sak) → ⊥)
        → own_by old t other ≡ Some that → (that.place ≡ own.place) × (that.epoch ≡ own.epoch) → ⊥
    other-epoch t other that differ e same =
        let owned = b.owned t other that e in
        differ (
          sym owned.0 ∙ ap (λ (p : ℕ). station_of p) same.0 ∙ own-owned.0,
          some-same (
              sym owned.1 ∙ ap (λ (p : ℕ). sak_at old p that.epoch) same.0
              ∙ ap (λ (e : ℕ). sak_at old own.place e) same.1 ∙ own-owned.1
              ),
        )

    grown-others : (t qn : ℕ) (other : Secret) → ((t ≡ s) × (qn ≡ pn) × (other ≡ sak) → ⊥)
        → line_by new t qn other ≡ line_by old t qn other
    grown-others t qn other apart = go (owner_dec t other s sak)
      where
        by : ((t ≡ s) × (other ≡ sak) → ⊥) → (o : Option Lines) → own_by old t other ≡ o
            → option_and_then (λ (own : Lines). line_in own new.aside qn) o
            ≡ option_and_then (λ (own : Lines). line_in own old.aside qn) o
        by differ None e = refl
        by differ (Some that) e = ap (option_or (in_run that.first that.run qn))
            (more.elsewhere that.place that.epoch qn (other-epoch t other that differ e))

        go : ((t ≡ s) × (other ≡ sak)) ⊎ ((t ≡ s) × (other ≡ sak) → ⊥)
            → line_by new t qn other ≡ line_by old t qn other
        go (inl same) = lines-here t other same qn (grown-rest qn (λ e. apart (same.0, e, same.1)))
        go (inr differ) =
            ap (option_and_then (λ (own : Lines). line_in own new.aside qn)) (put.others t other differ)
            ∙ by differ (own_by old t other) refl

    grown-bound : IsBound new
    grown-bound = record {
      installed = installed-still;
      owned = λ t other that e. owned t other that e (owner_dec t other s sak);
      behind = λ t e qn line x. behind t e qn line x (pair_dec own.place own.epoch t e);
    }
      where
        owned : (t : ℕ) (other : Secret) (that : Lines) → own_by new t other ≡ Some that
            → ((t ≡ s) × (other ≡ sak)) ⊎ ((t ≡ s) × (other ≡ sak) → ⊥) → IsOwned new t other that
        owned t other that e (inl same) =
            let so : IsOwned old s sak after = (
              ap (λ (p : ℕ). station_of p) more.place ∙ own-owned.0,
              ap (λ (p : ℕ). sak_at old p after.epoch) more.place
                  ∙ ap (λ (e : ℕ). sak_at old own.place e) more.epoch ∙ own-owned.1,
            ) in
            owned-here that t other same after put.here so e
        owned t other that e (inr differ) =
            owned-still that t other (b.owned t other that (sym (put.others t other differ) ∙ e))

        behind : (t e qn line : ℕ) → aside_at new.aside t e qn ≡ Some line
            → ((t ≡ own.place) × (e ≡ own.epoch)) ⊎ ((t ≡ own.place) × (e ≡ own.epoch) → ⊥)
            → IsBehind new t e
        behind t e qn line x (inl same) = (
          sak,
          after,
          ap (λ (t : ℕ). own_by new t sak) (ap (λ (p : ℕ). station_of p) same.0 ∙ own-owned.0) ∙ put.here,
          more.place ∙ sym same.0,
          more.epoch ∙ sym same.1,
        )
        behind t e qn line x (inr apart) =
            go (b.behind t e qn line (sym (more.elsewhere t e qn apart) ∙ x))
          where
            go : IsBehind old t e → IsBehind new t e
            go w = by (owner_dec (station_of t) w.0 s sak)
              where
                by : ((station_of t ≡ s) × (w.0 ≡ sak)) ⊎ ((station_of t ≡ s) × (w.0 ≡ sak) → ⊥)
                    → IsBehind new t e
                by (inl same) =
                    let is : w.1 ≡ own = some-same (sym w.2 ∙ own-here old (station_of t) w.0 same ∙ was) in
                    absurd (apart (
                      sym w.3 ∙ ap (λ (o : Lines). o.place) is,
                      sym w.4 ∙ ap (λ (o : Lines). o.epoch) is,
                    ))
                by (inr differ) = (w.0, w.1, put.others (station_of t) w.0 differ ∙ w.2, w.3, w.4)

-- a use was told, or put
pub narrow_kept : (number place epoch pn : ℕ) (octets : List ℕ) (old : Maps) (lines : LinesBySak) (now : Aside)
    (line : Option ℕ) → IsBound old → sak_at old place epoch ≡ Some (S128 octets)
    → LineIsKeptAt (station_of place, octets) place epoch pn number old.narrow old.aside lines now line
    → UseIsKept number (station_of place) pn (S128 octets) old (record old { narrow = lines; aside = now }) line
narrow_kept number place epoch pn octets old lines now (Some line) b there kept =
    (kept.0, λ i. record old { narrow = kept.1 i; aside = kept.2 i })
narrow_kept number place epoch pn octets old lines now None b there (inl o) =
    let put = narrow_by (station_of place) octets (fresh place epoch pn number) old lines now o.put in
    let new : Maps = record old { narrow = lines; aside = now } in (
      ap (option_and_then (λ (own : Lines). line_in own old.aside pn)) o.none,
      record {
        count = refl;
        missed = refl;
        once = refl;
        one_key = refl;
        epochs = refl;
        keys = refl;
        here = opened-here place epoch pn number (S128 octets) old new b there refl refl o.none put o.same;
        others = opened-others place epoch pn number (S128 octets) old new b there refl refl o.none put o.same;
        bound = opened-bound place epoch pn number (S128 octets) old new b there refl refl o.none put o.same;
      },
    )
narrow_kept number place epoch pn octets old lines now None b there (inr g) =
    let put = narrow_by (station_of place) octets g.after old lines now g.put in
    let new : Maps = record old { narrow = lines; aside = now } in (
      ap (option_and_then (λ (own : Lines). line_in own old.aside pn)) g.there ∙ g.none,
      record {
        count = refl;
        missed = refl;
        once = refl;
        one_key = refl;
        epochs = refl;
        keys = refl;
        here = grown-here place epoch pn number (S128 octets) old new b there refl refl g.own g.after g.there g.more put;
        others = grown-others place epoch pn number (S128 octets) old new b there refl refl g.own g.after g.there g.more put;
        bound = grown-bound place epoch pn number (S128 octets) old new b there refl refl g.own g.after g.there g.more put;
      },
    )

pub wide_kept : (number place epoch pn : ℕ) (octets : List ℕ) (old : Maps) (lines : LinesBySak) (now : Aside)
    (line : Option ℕ) → IsBound old → sak_at old place epoch ≡ Some (S256 octets)
    → LineIsKeptAt (station_of place, octets) place epoch pn number old.wide old.aside lines now line
    → UseIsKept number (station_of place) pn (S256 octets) old (record old { wide = lines; aside = now }) line
wide_kept number place epoch pn octets old lines now (Some line) b there kept =
    (kept.0, λ i. record old { wide = kept.1 i; aside = kept.2 i })
wide_kept number place epoch pn octets old lines now None b there (inl o) =
    let put = wide_by (station_of place) octets (fresh place epoch pn number) old lines now o.put in
    let new : Maps = record old { wide = lines; aside = now } in (
      ap (option_and_then (λ (own : Lines). line_in own old.aside pn)) o.none,
      record {
        count = refl;
        missed = refl;
        once = refl;
        one_key = refl;
        epochs = refl;
        keys = refl;
        here = opened-here place epoch pn number (S256 octets) old new b there refl refl o.none put o.same;
        others = opened-others place epoch pn number (S256 octets) old new b there refl refl o.none put o.same;
        bound = opened-bound place epoch pn number (S256 octets) old new b there refl refl o.none put o.same;
      },
    )
wide_kept number place epoch pn octets old lines now None b there (inr g) =
    let put = wide_by (station_of place) octets g.after old lines now g.put in
    let new : Maps = record old { wide = lines; aside = now } in (
      ap (option_and_then (λ (own : Lines). line_in own old.aside pn)) g.there ∙ g.none,
      record {
        count = refl;
        missed = refl;
        once = refl;
        one_key = refl;
        epochs = refl;
        keys = refl;
        here = grown-here place epoch pn number (S256 octets) old new b there refl refl g.own g.after g.there g.more put;
        others = grown-others place epoch pn number (S256 octets) old new b there refl refl g.own g.after g.there g.more put;
        bound = grown-bound place epoch pn number (S256 octets) old new b there refl refl g.own g.after g.there g.more put;
      },
    )
