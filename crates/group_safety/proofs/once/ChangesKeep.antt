-- Each change keeps the invariant.
use Rattle.std.proofs.Common.{◌≡◌, refl, sym, ap, ◌∙◌, subst, inl, inr, ℕ, List, [], ◌∷◌, map, true}
use Rattle.std.proofs.Common.{false, Some}
use Rattle.lan_core.specs.Ledgers.{Birth, Claim}
use Rattle.lan_base.specs.Differing.{AllDiffer}
use Rattle.group_safety.proofs.Members.{In, in-from_map}
use Rattle.group_safety.proofs.once.Places.{IsTail, tail-itself, differs-in}
use Rattle.group_safety.proofs.once.Places.{differs-from}
use Rattle.lan_base.specs.declared.address.Mi.{Mi}
use Rattle.group_safety.proofs.once.Ledgers.{Handed, Said, Made, Installation, Deeds, Book, newborn}
use Rattle.group_safety.proofs.once.Ledgers.{Change, was_born, was_made, was_said, was_heard}
use Rattle.group_safety.proofs.once.Ledgers.{was_taken, was_claimed, mis, with_life, after, May}
use Rattle.group_safety.proofs.once.Ledgers.{MayMake, MaySay, MayHear, MayTake, MayClaim, book}
use Rattle.group_safety.proofs.once.Ledgers.{AreAllowed}
use Rattle.group_safety.proofs.once.Currents.{with-life-cases, current-new, current-other, in-mis}
use Rattle.group_safety.proofs.once.Currents.{current-apart, in-older, current-then, none-some}
use Rattle.group_safety.proofs.once.Invariant.{IsMadeFor, IsMakerOf, IsTied, Inv, by_whom}

false-true : false ≡ true → ⊥
false-true e = cc

-- what stands behind a key still does when more is installed
made-still : (j : Installation) (is : List Installation) (k : Handed) (ms : List Mi)
    → (m : Installation) × IsMadeFor is k ms m → (m : Installation) × IsMadeFor (j ∷ is) k ms m
made-still j is k ms r =
    (r.0, record { place = inr r.1.place; made = r.1.made; key = r.1.key; begun = r.1.begun })

maker-still : (j : Installation) (is : List Installation) (i : Installation) → (m : Installation)
    × IsMakerOf is i m → (m : Installation) × IsMakerOf (j ∷ is) i m
maker-still j is i r =
    (r.0, record { place = inr r.1.place; made = r.1.made; key = r.1.key; current = r.1.current })

-- who installed has begun
installer-begun : (st : Book) → Inv st → (i : Installation) → In i st.installs
    → In i.life (mis st.births)
installer-begun st v i h =
    let r = v.makers i h in
    in-older r.0.born st.births i.life (v.tails r.0 r.1.place)
    (in-mis i.station i.life r.0.born r.1.current)

-- a life begins
kept-begins : (s : ℕ) (m : Mi) (st : Book) → AllDiffer (mis (after (was_born s m) st).births)
    → Inv st → Inv (after (was_born s m) st)
kept-begins s m st fresh v = record {
  lives = lives;
  of_spoken = record {
    speakers = λ a h. inr (v.speakers a h);
    gifts = v.gifts;
  };
  of_installs = record {
    makers = v.makers;
    own = v.own;
    tails = λ i h. inr (v.tails i h);
    once = v.once;
  };
  of_claims = v.of_claims;
}
  where
    bs : List Birth
    bs = record { station = s; mi = m } ∷ st.births

    lives : (t : ℕ) (l : Deeds) → with_life s (newborn m) st.life t ≡ Some l
        → IsTied bs st.installs t l
    lives t l h = elim (with-life-cases s t (newborn m) l st.life h) [
      | inl e ↦ subst (λ w. IsTied bs st.installs t w) e.1
          (subst (λ w. IsTied bs st.installs w (newborn m)) e.0 (record {
            begun = current-new s m st.births;
            heard = λ x k. elim k [ ];
            made = λ d k. elim k [ ];
            keys = λ i k o. absurd
                (differs-in m i.life (mis st.births) fresh.0 (installer-begun st v i k) (sym o));
          }))
      | inr e ↦ let old = v.lives t l e.1 in record {
        begun = current-other s t m st.births e.0 ∙ old.begun;
        heard = λ x k. inr (old.heard x k);
        made = old.made;
        keys = old.keys;
      }
    ]

-- a life installs a key that it has not installed, made for it by a life of its time
kept-installs : (st : Book) → AllDiffer (mis st.births) → Inv st →
    (j : Installation) (l n : Deeds) → st.life j.station ≡ Some l → j.life ≡ l.mi
    → j.born ≡ st.births → ¬ (In j.key.id l.keys) →
    (j.made ≡ true → j.key.id.server ≡ j.life) → (m : Installation)
    × IsMakerOf (j ∷ st.installs) j m →
    n.mi ≡ l.mi → n.heard ≡ l.heard → n.keys ≡ j.key.id ∷ l.keys →
    ((d : Made) → In d n.made → (m : Installation) × IsMadeFor (j ∷ st.installs) d.key d.roster m) →
    Inv (record st { installs = j ∷ st.installs; life = with_life j.station n st.life })
kept-installs st fresh v j l n living whose born new own maker nmi nheard nkeys nmade = record {
  lives = lives;
  of_spoken = record {
    speakers = v.speakers;
    gifts = λ a k h e. made-still j st.installs k a.live (v.gifts a k h e);
  };
  of_installs = record {
    makers = λ i h. elim h [
      | inl e ↦ subst (λ w. (m : Installation) × IsMakerOf (j ∷ st.installs) w m) (sym e) maker
      | inr k ↦ maker-still j st.installs i (v.makers i k)
    ];
    own = λ i h. elim h [
      | inl e ↦ subst (λ (w : Installation). w.made ≡ true → w.key.id.server ≡ w.life) (sym e) own
      | inr k ↦ v.own i k
    ];
    tails = λ i h. elim h [
      | inl e ↦
          subst (λ w. IsTail w st.births) (sym born ∙ ap (λ (w : Installation). w.born) (sym e))
          (tail-itself st.births)
      | inr k ↦ v.tails i k
    ];
    once = (differs-from (by_whom j) (map by_whom st.installs) differs, v.once);
  };
  of_claims = record {
    claimed = λ c h. let r = v.claimed c h in (r.0, inr r.1, r.2, r.3);
    falling = v.falling;
  };
}
  where
    was : IsTied st.births st.installs j.station l
    was = v.lives j.station l living

    differs : ¬ (In (by_whom j) (map by_whom st.installs))
    differs h =
        let r = in-from_map by_whom st.installs (by_whom j) h in
        new (subst (λ w. In w l.keys) (sym (ap (λ w. w.1) r.2))
        (was.keys r.0 r.1 (sym (ap (λ w. w.0) r.2) ∙ whose)))

    lives : (t : ℕ) (o : Deeds) → with_life j.station n st.life t ≡ Some o
        → IsTied st.births (j ∷ st.installs) t o
    lives t o h = elim (with-life-cases j.station t n o st.life h) [
      | inl e ↦ subst (λ w. IsTied st.births (j ∷ st.installs) t w) e.1
          (subst (λ w. IsTied st.births (j ∷ st.installs) w n) e.0 (record {
            begun = rw nmi was.begun;
            heard = rw nheard was.heard;
            made = nmade;
            keys = λ i k q. elim k [
              | inl p ↦ rw nkeys (inl (ap (λ (w : Installation). w.key.id) p))
              | inr p ↦ rw nkeys (inr (was.keys i p (q ∙ nmi)))
            ];
          }))
      | inr e ↦ let old = v.lives t o e.1 in record {
        begun = old.begun;
        heard = old.heard;
        made = λ d k. made-still j st.installs d.key d.roster (old.made d k);
        keys = λ i k q. elim k [
          | inl p ↦
              absurd (e.0
              (current-apart j.station t o.mi st.births fresh
              (rw (← q, ap (λ (w : Installation). w.life) p, whose) was.begun) old.begun))
          | inr p ↦ old.keys i p q
        ];
      }
    ]

-- a life makes a key
kept-makes : (s : ℕ) (l : Deeds) (d : Made) (e : ℕ) (st : Book) → AllDiffer (mis st.births) → Inv st
    → MayMake st s l d → Inv (after (was_made s l d e) st)
kept-makes s l d e st fresh v may =
    kept-installs st fresh v j l n may.living refl refl may.new (λ _. may.own)
    (j, record { place = inl refl; made = refl; key = refl; current = was.begun }) refl refl
    refl made
  where
    was : IsTied st.births st.installs s l
    was = v.lives s l may.living

    j : Installation
    j = record { station = s; life = l.mi; key = d.key; epoch = e; made = true; born = st.births }

    n : Deeds
    n = record l { made = d ∷ l.made; keys = d.key.id ∷ l.keys }

    known : (m : Mi) → In m d.roster → In m (mis st.births)
    known m h = elim (may.known m h) [
      | inl e ↦ subst (λ w. In w (mis st.births)) (sym e) (in-mis s l.mi st.births was.begun)
      | inr k ↦ was.heard m k
    ]

    made : (x : Made) → In x (d ∷ l.made) → (m : Installation)
        × IsMadeFor (j ∷ st.installs) x.key x.roster m
    made x h = elim h [
      | inl p ↦
          subst (λ (w : Made). (m : Installation) × IsMadeFor (j ∷ st.installs) w.key w.roster m)
          (sym p) (j, record { place = inl refl; made = refl; key = refl; begun = known })
      | inr k ↦ made-still j st.installs x.key x.roster (was.made x k)
    ]

-- a life takes a key that it has heard of
kept-takes : (s : ℕ) (l : Deeds) (a : Said) (k : Handed) (e : ℕ) (st : Book)
    → AllDiffer (mis st.births) → Inv st → MayTake st s l a k → Inv (after (was_taken s l a k e) st)
kept-takes s l a k e st fresh v may =
    kept-installs st fresh v j l n may.living refl refl may.new (λ is. absurd (false-true is))
    (m.0, maker) refl refl refl
    (λ d h. made-still j st.installs d.key d.roster (was.made d h))
  where
    was : IsTied st.births st.installs s l
    was = v.lives s l may.living

    j : Installation
    j = record { station = s; life = l.mi; key = k; epoch = e; made = false; born = st.births }

    n : Deeds
    n = record l { keys = k.id ∷ l.keys }

    m : (m : Installation) × IsMadeFor st.installs k a.live m
    m = v.gifts a k may.spoken may.given

    maker : IsMakerOf (j ∷ st.installs) j m.0
    maker = record {
      place = inr m.1.place;
      made = m.1.made;
      key = m.1.key;
      current = current-then s l.mi m.0.born st.births fresh (v.tails m.0 m.1.place) was.begun
          (m.1.begun l.mi may.listed);
    }

-- a life sends an announcement
kept-speaks : (s : ℕ) (l : Deeds) (a : Said) (st : Book) → AllDiffer (mis st.births) → Inv st
    → MaySay st s l a → Inv (after (was_said s l a) st)
kept-speaks s l a st fresh v may = record {
  lives = v.lives;
  of_spoken = record {
    speakers = λ b h. elim h [
      | inl e ↦ rw (e, may.own) (in-mis s l.mi st.births was.begun)
      | inr k ↦ v.speakers b k
    ];
    gifts = gifts;
  };
  of_installs = v.of_installs;
  of_claims = v.of_claims;
}
  where
    was : IsTied st.births st.installs s l
    was = v.lives s l may.living

    given : (k : Handed) → a.given ≡ Some k → (m : Installation) × IsMadeFor st.installs k a.live m
    given k e =
        let d = may.gives k e in let m = was.made d.0 d.1.made in (
          m.0,
          record {
            place = m.1.place;
            made = m.1.made;
            key = m.1.key
                ∙ sym d.1.key;
            begun = λ x h. m.1.begun x (d.1.listed x h);
          },
        )

    gifts : (b : Said) (k : Handed) → In b (a ∷ st.spoken) → b.given ≡ Some k → (m : Installation)
        × IsMadeFor st.installs k b.live m
    gifts b k h e = elim h [
      | inl p ↦ subst (λ (w : Said). (m : Installation) × IsMadeFor st.installs k w.live m) (sym p)
          (given k (ap (λ (w : Said). w.given) (sym p) ∙ e))
      | inr q ↦ v.gifts b k q e
    ]

-- a life hears an announcement
kept-hears : (s : ℕ) (l : Deeds) (a : Said) (st : Book) → Inv st → MayHear st s l a
    → Inv (after (was_heard s l a) st)
kept-hears s l a st v may = record {
  lives = lives;
  of_spoken = v.of_spoken;
  of_installs = v.of_installs;
  of_claims = v.of_claims;
}
  where
    was : IsTied st.births st.installs s l
    was = v.lives s l may.living

    n : Deeds
    n = record l { heard = a.mi ∷ l.heard }

    lives : (t : ℕ) (o : Deeds) → with_life s n st.life t ≡ Some o
        → IsTied st.births st.installs t o
    lives t o h = elim (with-life-cases s t n o st.life h) [
      | inl e ↦ subst (λ w. IsTied st.births st.installs t w) e.1
          (subst (λ w. IsTied st.births st.installs w n) e.0 (record {
            begun = was.begun;
            heard = λ m k. elim k [
              | inl p ↦ rw p (v.speakers a may.spoken)
              | inr p ↦ was.heard m p
            ];
            made = was.made;
            keys = was.keys;
          }))
      | inr e ↦ v.lives t o e.1
    ]

-- a number is claimed
kept-claims : (n : Claim) (st : Book) → Inv st → MayClaim st n → Inv (after (was_claimed n) st)
kept-claims n st v may = record {
  lives = v.lives;
  of_spoken = v.of_spoken;
  of_installs = v.of_installs;
  of_claims = record {
    claimed = λ c h. elim h [
      | inl p ↦ (
        may.installed.0,
        may.installed.1,
        may.installed.2
            ∙ ap (λ (w : Claim). w.station) (sym p),
        may.installed.3
            ∙ ap (λ (w : Claim). w.epoch) (sym p),
      )
      | inr k ↦ v.claimed c k
    ];
    falling = (may.new, v.falling);
  };
}

-- each change keeps it
pub kept : (x : Change) (st : Book) → AllDiffer (mis (after x st).births) → Inv st → May x st
    → Inv (after x st)
kept (was_born s m) st fresh v may = kept-begins s m st fresh v
kept (was_made s l d e) st fresh v may = kept-makes s l d e st fresh v may
kept (was_said s l a) st fresh v may = kept-speaks s l a st fresh v may
kept (was_heard s l a) st fresh v may = kept-hears s l a st v may
kept (was_taken s l a k e) st fresh v may = kept-takes s l a k e st fresh v may
kept (was_claimed n) st fresh v may = kept-claims n st v may

-- what is fresh afterwards was before
fresh-before : (x : Change) (st : Book) → AllDiffer (mis (after x st).births)
    → AllDiffer (mis st.births)
fresh-before (was_born s m) st d = d.1
fresh-before (was_made s l m e) st d = d
fresh-before (was_said s l a) st d = d
fresh-before (was_heard s l a) st d = d
fresh-before (was_taken s l a k e) st d = d
fresh-before (was_claimed c) st d = d

-- it holds after all allowed changes without two equal identifiers
pub holds : (r : List Change) → AreAllowed r → AllDiffer (mis (book r).births) → Inv (book r)
holds [] allowed fresh = record {
  lives = λ s l h. absurd (none-some h);
  of_spoken = record {
    speakers = λ a h. elim h [ ];
    gifts = λ a k h e. elim h [ ];
  };
  of_installs = record {
    makers = λ i h. elim h [ ];
    own = λ i h e. elim h [ ];
    tails = λ i h. elim h [ ];
    once = tt;
  };
  of_claims = record {
    claimed = λ c h. elim h [ ];
    falling = tt;
  };
}
holds (x ∷ r) allowed fresh =
    kept x (book r) fresh (holds r allowed.1 (fresh-before x (book r) fresh)) allowed.0
