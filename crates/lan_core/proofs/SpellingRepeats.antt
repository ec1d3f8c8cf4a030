-- Octets repeat a frame exactly where it begins with what they spell, up to the end of the check value.
use Rattle.std.proofs.Common.{◌≡◌, ◌∙◌, ℕ, ◌+◌, ◌-◌, ◌%◌, ◌≤◌, Bool, true, false, ◌||◌, List, [], ◌∷◌, ◌++◌, length, take, drop, refl, sym, ap, subst, arith}
use Rattle.std.proofs.lemmas.Bool.Decides.{nat_tests}
use Rattle.std.proofs.Math.Seq.{take-add}
use Rattle.std.proofs.lemmas.List.{append_assoc, take_at, take-append-drop, length-take-le}
use Rattle.std.specs.Prelude.{◌&&◌, ◌==◌, nat_eq, nat_le, not, if◌then◌else◌, Some, None, Result, Ok, Err}
use Rattle.std.specs.List.{list_any}
use lib.Pointwise.{pointwise, bytes_decides}
use Rattle.mkpdu_codec.specs.declared.announcement.Announcement.{Announcement}
use Rattle.mkpdu_codec.specs.declared.spelled.Spelled.{Spelled}
use Rattle.mkpdu_codec.specs.declared.refusal.Refusal.{Refusal}
use Rattle.mkpdu_codec.specs.declared.refusal.Refusal.TheVariants.{NotMka, Short, Agility}
use Rattle.mkpdu_codec.specs.Refusals.{is_mka, is_long_enough, body_length, check_place, sets_of, is_known}
use Rattle.mkpdu_codec.specs.Fields.{Basics, basic_at}
use Rattle.mkpdu_codec.specs.Reading.{check_value, ◌>>=◌, Inner, Gathered, parts_at, basic_or, gathered, nothing, announcement_of, reading}
use Rattle.lan_core.specs.Fresh.{same_spelling}
use Rattle.lan_core.specs.inside.Repeats.{begins, repeats_octets}

-- ---- a frame reaches to the end of its check value

-- what follows a result that is there
record Then {A B : Type 0} (r : Result A Refusal) (f : A → Result B Refusal) (y : B) : Type 0 where
  value : A
  there : r ≡ Ok value
  gives : f value ≡ Ok y

bound : {A B : Type 0} (r : Result A Refusal) (f : A → Result B Refusal) (y : B) → (r >>= f) ≡ Ok y → Then r f y
bound (Ok x) f y e = record { value = x; there = refl; gives = e }
bound (Err refusal) f y e = absurd cc

abbrev value_or : {A : Type 0} → A → Result A Refusal → A
value_or d (Ok x) = x
value_or d (Err refusal) = d

same_value : {A : Type 0} (x y : A) (r : Result A Refusal) → r ≡ Ok x → r ≡ Ok y → x ≡ y
same_value x y r a b = sym (ap (value_or x) a) ∙ ap (value_or x) b

both : (a b : Bool) → a && b ≡ true → (a ≡ true) × (b ≡ true)
both true true e = (refl, refl)
both true false e = absurd cc
both false b e = absurd cc

-- a test let something through
record Passed {A : Type 0} (b : Bool) (x y : A) : Type 0 where
  test : b ≡ true
  same : x ≡ y

two_tests : (a b : Bool) (x y : Inner) → (if not a then Err NotMka else if not b then Err Short else Ok x) ≡ Ok y → Passed (a && b) x y
two_tests true true x y e = record { test = refl; same = ap (value_or x) e }
two_tests true false x y e = absurd cc
two_tests false b x y e = absurd cc

one_test : (a : Bool) (x y : Spelled) → (if not a then Err Agility else Ok x) ≡ Ok y → x ≡ y
one_test true x y e = ap (value_or x) e
one_test false x y e = absurd cc

-- the check value stands in the frame, behind what it covers
pub record Stands (frame : List ℕ) (covered : ℕ) (check : List ℕ) : Type 0 where
  pub fits : covered + 16 ≤ length frame
  pub stands : check ≡ take 16 (drop covered frame)
  pub valued : check_value frame ≡ Some check

long : (body frame : ℕ) → (nat_le 32 body && (body % 4 == 0) && nat_le (18 + body) frame) ≡ true → (18 + (body - 16)) + 16 ≤ frame
long body frame e = grind (arith, nat_tests)

parts_stand : (frame : List ℕ) (p : Inner) → parts_at frame ≡ Ok p → Stands frame p.covered p.check
unfolding parts_at
parts_stand frame p e =
    let x : Inner = record { source = record { 0 = take 6 (drop 6 frame) }; sets = sets_of frame; covered = check_place frame; check = take 16 (drop (check_place frame) frame) } in
    let passed = two_tests (is_mka frame) (is_long_enough frame) x p e in
    subst (λ (q : Inner). Stands frame q.covered q.check) passed.same
    (record {
      fits = long (body_length frame) (length frame) (both (is_mka frame) (is_long_enough frame) passed.test).1;
      stands = refl;
      valued = ap (λ b. if b then Some (take 16 (drop (check_place frame) frame)) else None) passed.test;
    })

-- what is read of the parts
abbrev read_by : Inner → Basics × List ℕ → Gathered → Result Spelled Refusal
read_by p b g =
    if not (is_known b.0.agility) then Err Agility
    else Ok (record { announcement = announcement_of p.source b.0 g; covered = p.covered; check = p.check })

stands_so : (frame : List ℕ) (p : Inner) (s : Spelled) → Stands frame p.covered p.check → (a : Announcement) → record { announcement = a; covered = p.covered; check = p.check } ≡ s
    → Stands frame s.covered s.check
stands_so frame p s stands a same = subst (λ (t : Spelled). Stands frame t.covered t.check) same stands

pub read_stands : (frame : List ℕ) (s : Spelled) → reading frame ≡ Ok s → Stands frame s.covered s.check
unfolding reading
read_stands frame s e =
    let parts = bound (parts_at frame) (λ p. basic_or 18 (basic_at p.sets) >>= λ b. gathered (length b.1) p.covered nothing b.1 >>= λ g. read_by p b g) s e in
    let p = parts.value in
    let basic = bound (basic_or 18 (basic_at p.sets)) (λ b. gathered (length b.1) p.covered nothing b.1 >>= λ g. read_by p b g) s parts.gives in
    let b = basic.value in
    let others = bound (gathered (length b.1) p.covered nothing b.1) (λ g. read_by p b g) s basic.gives in
    let g = others.value in
    stands_so frame p s (parts_stand frame p parts.there) (announcement_of p.source b.0 g) (one_test (is_known b.0.agility) (record { announcement = announcement_of p.source b.0 g; covered = p.covered; check = p.check }) s others.gives)

same_tests : (a b : Bool) → (a ≡ true → b ≡ true) → (b ≡ true → a ≡ true) → a ≡ b
same_tests true b f g = sym (f refl)
same_tests false true f g = g refl
same_tests false false f g = refl

-- ---- repeating is beginning with the same

-- what a frame spells stands at its front, up to the end of its check value
told_is : (frame : List ℕ) (covered : ℕ) (check : List ℕ) → Stands frame covered check → take (covered + 16) frame ≡ take covered frame ++ check
told_is frame covered check p = take-add covered 16 frame ∙ ap (λ xs. take covered frame ++ xs) (sym p.stands)

covered_length : (frame : List ℕ) (covered : ℕ) (check : List ℕ) → Stands frame covered check → length (take covered frame) ≡ covered
covered_length frame covered check p = length-take-le covered frame (omega (arith, p.fits))

-- a frame that begins with octets goes on behind them
pub goes_on : (octets frame : List ℕ) → begins octets frame ≡ true → frame ≡ octets ++ drop (length octets) frame
goes_on octets frame e =
    let front : octets ≡ take (length octets) frame = (bytes_decides octets (take (length octets) frame)).0 e in
    sym (ap (λ xs. xs ++ drop (length octets) frame) front ∙ take-append-drop (length octets) frame)

begun_by : (octets frame rest : List ℕ) → frame ≡ octets ++ rest → begins octets frame ≡ true
begun_by octets frame rest e =
    (bytes_decides octets (take (length octets) frame)).1 (sym (ap (take (length octets)) e ∙ take_at octets rest (length octets) refl))

-- a frame that spells the same begins with it
same_begins : (octets frame : List ℕ) (s t : Spelled) → Stands octets s.covered s.check → Stands frame t.covered t.check
    → (pointwise nat_eq (take s.covered octets) (take t.covered frame) && pointwise nat_eq s.check t.check) ≡ true
    → begins (take (s.covered + 16) octets) frame ≡ true
same_begins octets frame s t p q e =
    let two = both (pointwise nat_eq (take s.covered octets) (take t.covered frame)) (pointwise nat_eq s.check t.check) e in
    let covered : take s.covered octets ≡ take t.covered frame = (bytes_decides (take s.covered octets) (take t.covered frame)).0 two.0 in
    let check : s.check ≡ t.check = (bytes_decides s.check t.check).0 two.1 in
    let told : take (s.covered + 16) octets ≡ take (t.covered + 16) frame =
    told_is octets s.covered s.check p ∙ ap (λ xs. xs ++ s.check) covered ∙ ap (λ xs. take t.covered frame ++ xs) check ∙ sym (told_is frame t.covered t.check q) in
    begun_by (take (s.covered + 16) octets) frame (drop (t.covered + 16) frame)
    (sym (ap (λ xs. xs ++ drop (t.covered + 16) frame) told ∙ take-append-drop (t.covered + 16) frame))

-- a frame that begins with all that octets spell spells the same
same_again : (octets frame : List ℕ) (s : Spelled) → Stands octets s.covered s.check → reading frame ≡ Ok s → begins (take (s.covered + 16) octets) frame ≡ true
    → same_spelling octets frame (Ok s) (reading frame) ≡ true
same_again octets frame s p again e =
    let rest = drop (length (take (s.covered + 16) octets)) frame in
    let whole : frame ≡ take s.covered octets ++ (s.check ++ rest) =
    goes_on (take (s.covered + 16) octets) frame e ∙ ap (λ xs. xs ++ rest) (told_is octets s.covered s.check p)
    ∙ append_assoc (take s.covered octets) s.check rest in
    let covered : take s.covered frame ≡ take s.covered octets =
    ap (take s.covered) whole ∙ take_at (take s.covered octets) (s.check ++ rest) s.covered (covered_length octets s.covered s.check p) in
    ap (same_spelling octets frame (Ok s)) again
    ∙ ap (λ b. b && pointwise nat_eq s.check s.check) ((bytes_decides (take s.covered octets) (take s.covered frame)).1 (sym covered))
    ∙ (bytes_decides s.check s.check).1 refl

pub repeats_begins : (octets frame : List ℕ) (s : Spelled) → reading octets ≡ Ok s → ((rest : List ℕ) → reading (take (s.covered + 16) octets ++ rest) ≡ Ok s)
    → begins (take (s.covered + 16) octets) frame ≡ repeats_octets octets frame
repeats_begins octets frame s is again =
    let told = take (s.covered + 16) octets in
    let stands = read_stands octets s is in
    same_tests (begins told frame) (repeats_octets octets frame)
    (λ e.
    let other : reading frame ≡ Ok s = ap reading (goes_on told frame e) ∙ again (drop (length told) frame) in
    ap (λ r. same_spelling octets frame r (reading frame)) is ∙ same_again octets frame s stands other e)
    (λ e. go (reading frame) refl (sym (ap (λ r. same_spelling octets frame r (reading frame)) is) ∙ e))
  where
    go : (r : Result Spelled Refusal) → reading frame ≡ r → same_spelling octets frame (Ok s) r ≡ true → begins (take (s.covered + 16) octets) frame ≡ true
    go (Ok t) there e = same_begins octets frame s t (read_stands octets s is) (read_stands frame t there) e
    go (Err refusal) there e = absurd cc

-- octets that spell nothing repeat no frame
pub repeats_none : (octets : List ℕ) (refusal : Refusal) (frames : List (List ℕ)) → reading octets ≡ Err refusal → list_any (repeats_octets octets) frames ≡ false
repeats_none octets refusal [] is = refl
repeats_none octets refusal (frame ∷ frames) is =
    ap (λ r. same_spelling octets frame r (reading frame) || list_any (repeats_octets octets) frames) is ∙ repeats_none octets refusal frames is

pub any_same : (f g : List ℕ → Bool) → ((xs : List ℕ) → f xs ≡ g xs) → (lists : List (List ℕ)) → list_any f lists ≡ list_any g lists
any_same f g same [] = refl
any_same f g same (xs ∷ lists) = ap (λ b. b || list_any f lists) (same xs) ∙ ap (λ b. g xs || b) (any_same f g same lists)
