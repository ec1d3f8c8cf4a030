-- What is kept when one event more comes.
use Rattle.std.proofs.Common.{◌≡◌, ◌∙◌, ◌⊎◌, inl, inr, ℕ, Bool, true, false, cond, List, [], ◌∷◌, ◌++◌, Some, None, refl, sym, ap}
use Rattle.std.specs.Prelude.{◌==◌, ◌&&◌, ◌||◌, nat_eq}
use Rattle.std.specs.List.{list_any}
use Rattle.std.specs.Map.{lookup}
use Rattle.std.specs.BTreeMap.{is_at}
use Rattle.std.specs.Option.{option_or}
use Rattle.std.proofs.lemmas.Bool.{and_parts, or_cases, or_left, or_right, eqb-true, eq-eqb}
use Rattle.std.proofs.lemmas.List.Folds.{list_any-append}
use Rattle.lan_base.specs.declared.address.Mi.{Mi}
use Rattle.lan_base.specs.declared.address.Sci.{Sci}
use Rattle.lan_base.specs.declared.key_id.KeyId.{KeyId}
use Rattle.mkpdu_codec.specs.declared.key_use.KeyUse.{KeyUse}
use Rattle.member_notes.specs.Spoken.{Spoken}
use Rattle.member_notes.specs.Standing.{member_cmp}
use Rattle.use_notes.specs.declared.frame.RightFrame.{RightFrame}
use Rattle.rollover_notes.specs.declared.counts.Counts.{Counts}
use Rattle.rollover_notes.specs.Events.{Event, Gave, Spoke, Used}
use Rattle.rollover_notes.specs.Givings.{GroupId, group_id, in_order, is_given, with_key}
use Rattle.rollover_notes.specs.Speaking.{Member, Said, said_of}
use Rattle.rollover_notes.specs.Reports.{id_in, is_key, uses_of}
use Rattle.rollover_notes.specs.Timings.{is_late_frame}
use Rattle.rollover_notes.specs.Counted.{Pair, pair_cmp, unready_counts, with_late}
use Rattle.rollover_notes.specs.Standing.{KeptRollovers, MemberKey, StandsFor, group_id_cmp, group_key_cmp, has, number_sci_cmp}
use Rattle.rollover_notes.specs.inside.Putting.{Adds, CountsMore, Lates, Puts, PutsFirst, PutsShown}
use Rattle.rollover_notes.proofs.Ties.{group-id-ties, group-key-ties, member-ties, number-sci-ties}

cond-or : (b c : Bool) → cond b true c ≡ (b || c)
cond-or true c = refl
cond-or false c = refl

-- ---- a key is given

stands-among : (key k : ℕ) (ks : List ℕ) → list_any (nat_eq k) ks ≡ true → list_any (nat_eq k) (with_key key ks) ≡ true
stands-among key k ks there = go (list_any (nat_eq key) ks)
  where
    go : (b : Bool) → list_any (nat_eq k) (cond b ks (ks ++ key ∷ [])) ≡ true
    go true = there
    go false =
        list_any-append (nat_eq k) ks (key ∷ [])
        ∙ or_left (list_any (nat_eq k) ks) (list_any (nat_eq k) (key ∷ [])) there

stands-last : (key : ℕ) (ks : List ℕ) → list_any (nat_eq key) (with_key key ks) ≡ true
stands-last key ks = go (list_any (nat_eq key) ks) refl
  where
    go : (b : Bool) → list_any (nat_eq key) ks ≡ b → list_any (nat_eq key) (cond b ks (ks ++ key ∷ [])) ≡ true
    go true is = is
    go false is =
        list_any-append (nat_eq key) ks (key ∷ [])
        ∙ or_right (list_any (nat_eq key) ks) (list_any (nat_eq key) (key ∷ []))
        (or_left (nat_eq key key) false (eq-eqb key key refl))

-- a key that was given in a group has its place
given-stands : (h : List Event) (group key : ℕ) → is_given h group key ≡ true
    → list_any (nat_eq key) (in_order h) ≡ true
given-stands [] group key given = absurd (cc given)
given-stands (Gave g id k ∷ h) group key given =
    go (or_cases ((g == group) && (k == key)) (is_given h group key) given) (given-stands h group key)
  where
    go : (((g == group) && (k == key)) ≡ true) ⊎ (is_given h group key ≡ true)
        → (is_given h group key ≡ true → list_any (nat_eq key) (in_order h) ≡ true)
        → list_any (nat_eq key) (with_key k (in_order h)) ≡ true
    go (inl here) before =
        let same = eqb-true k key (and_parts (g == group) (k == key) here).1 in
        ap (λ n. list_any (nat_eq key) (with_key n (in_order h))) same ∙ stands-last key (in_order h)
    go (inr there) before = stands-among k key (in_order h) (before there)
given-stands (Spoke s ∷ h) group key given = given-stands h group key given
given-stands (Used frame ∷ h) group key given = given-stands h group key given

ordered-more : (h : List Event) (group key : ℕ)
    → cond (is_given h group key) (in_order h) (with_key key (in_order h)) ≡ with_key key (in_order h)
ordered-more h group key = go (is_given h group key) refl
  where
    go : (b : Bool) → is_given h group key ≡ b → cond b (in_order h) (with_key key (in_order h)) ≡ with_key key (in_order h)
    go true is =
        sym (ap (λ b. cond b (in_order h) (in_order h ++ key ∷ [])) (given-stands h group key is))
    go false is = refl

module _ (h : List Event) (kept : KeptRollovers) (stands : StandsFor h kept) where
  pub gave : (group : ℕ) (id : KeyId) (key : ℕ) (ids : List (GroupId × ℕ)) (groups : List (ℕ × ℕ)) (ks : List ℕ)
      → PutsFirst group_id_cmp (group_id group id) key kept.ids ids
      → Adds group_key_cmp (group, key) kept.groups groups
      → ks ≡ cond (has group_key_cmp kept.groups (group, key)) kept.order (with_key key kept.order)
      → StandsFor (Gave group id key ∷ h) (record kept { ids = ids; groups = groups; order = ks })
  gave group id key ids groups ks puts adds ordered = record {
    ids = λ it. puts it
        ∙ (λ t. option_or (stands.ids it t) (cond (group-id-ties (group_id group id) it t) (Some key) None));
    groups = λ g k. adds (g, k)
        ∙ (λ t. cond (group-key-ties (group, key) (g, k) t) true (stands.groups g k t))
        ∙ cond-or ((group == g) && (key == k)) (is_given h g k);
    order = ordered
        ∙ (λ t. cond (stands.groups group key t) (stands.order t) (with_key key (stands.order t)))
        ∙ ordered-more h group key;
    packets = stands.packets;
    times = stands.times;
    said = stands.said;
    speakers = stands.speakers;
    unready = stands.unready;
    late = stands.late;
  }

  -- ---- a member speaks

  pub spoke : (s : Spoken) (packets times : List (MemberKey × ℕ)) (said : List (Member × Said))
      (speakers : List ((ℕ × Sci) × Mi))
      → PutsShown (λ key. list_any (λ (u : KeyUse). u.rx
      && is_key key (lookup (is_at (group_id_cmp (id_in s.mkpdu.group u))) kept.ids)) (uses_of s.said.uses))
      (s.mkpdu.group, s.mkpdu.mi) s.mkpdu.packet kept.packets packets
      → PutsShown (λ key. list_any (λ (u : KeyUse). u.tx && (u.rx
      && is_key key (lookup (is_at (group_id_cmp (id_in s.mkpdu.group u))) kept.ids))) (uses_of s.said.uses))
      (s.mkpdu.group, s.mkpdu.mi) s.nanos kept.times times
      → Puts member_cmp (s.mkpdu.group, s.mkpdu.mi) (said_of s.nanos s.said) kept.said said
      → Puts number_sci_cmp (s.mkpdu.group, s.said.sci) s.mkpdu.mi kept.speakers speakers
      → StandsFor (Spoke s ∷ h) (record kept { packets = packets; times = times; said = said; speakers = speakers })
  spoke s packets times said speakers reported began words last =
      let m : Member = (s.mkpdu.group, s.mkpdu.mi) in
      record {
        ids = stands.ids;
        groups = stands.groups;
        order = stands.order;
        packets = λ q key. reported (q, key)
            ∙ (λ t. option_or (stands.packets q key t)
            (cond (member-ties m q t && list_any (λ (u : KeyUse). u.rx
            && is_key key (stands.ids (id_in s.mkpdu.group u) t)) (uses_of s.said.uses)) (Some s.mkpdu.packet) None));
        times = λ q key. began (q, key)
            ∙ (λ t. option_or (stands.times q key t)
            (cond (member-ties m q t && list_any (λ (u : KeyUse). u.tx && (u.rx
            && is_key key (stands.ids (id_in s.mkpdu.group u) t))) (uses_of s.said.uses)) (Some s.nanos) None));
        said = λ q. words q ∙ (λ t. cond (member-ties m q t) (Some (said_of s.nanos s.said)) (stands.said q t));
        speakers = λ q. last q
            ∙ (λ t. cond (number-sci-ties (s.mkpdu.group, s.said.sci) q t) (Some s.mkpdu.mi) (stands.speakers q t));
        unready = stands.unready;
        late = stands.late;
      }

  -- ---- a frame is used

  pub used : (frame : RightFrame) (is_late : Bool) (unready : List (Pair × Counts)) (lates : Lates)
      → ((p : Pair) → lookup (is_at (pair_cmp p)) unready ≡ unready_counts (Used frame ∷ h) p)
      → is_late ≡ is_late_frame h frame
      → CountsMore is_late frame.packet (frame.key, frame.sci) kept.late lates
      → StandsFor (Used frame ∷ h) (record kept { unready = unready; late = lates })
  used frame is_late unready lates counts is more_late = record {
    ids = stands.ids;
    groups = stands.groups;
    order = stands.order;
    packets = stands.packets;
    times = stands.times;
    said = stands.said;
    speakers = stands.speakers;
    unready = counts;
    late = λ q. more_late q
        ∙ (λ t. cond (number-sci-ties (frame.key, frame.sci) q t && is t) (with_late frame.packet (stands.late q t)) (stands.late q t));
  }
