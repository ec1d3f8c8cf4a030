-- A fact that words say along a sound tree has these words.
use Rattle.std.proofs.Common.{◌≡◌, ℕ, Bool, List, [], ◌∷◌, ◌++◌, refl, sym, ap, ◌∙◌, inl, inr, subst, append_assoc}
use Rattle.std.specs.Prelude.{Option, Some, map, option_map, codes, if◌then◌else◌}
use Rattle.std.proofs.lemmas.List.{append-nil, map-append}
use Rattle.lan_base.specs.declared.address.Mi.{Mi}
use Rattle.lan_base.specs.declared.association_number.AssociationNumber.{AssociationNumber}
use Rattle.lan_base.specs.declared.key_id.KeyId.{KeyId}
use Rattle.sak_exchange.specs.declared.change.Cause.{Cause}
use Rattle.gcm_frames.specs.declared.tag.TagRefusal.{TagRefusal}
use Rattle.gcm_frames.specs.Tags.{tag_text}
use Rattle.lan_core.specs.declared.fact.Fact.{Fact}
use Rattle.trace_text.specs.Words.{is_word}
use Rattle.transcript.specs.Words.{Word, spelled, words, an_word, an_words, key_words, held_words, server_word, secret_word, cause_text, causes, frame_text, secs}
use Rattle.transcript.specs.Words as Words
use Rattle.transcript.specs.Rendering.{AllFit}
use Rattle.transcript.specs.declared.words.Held.{Held}
use Rattle.transcript.specs.inside.Reading.{Part, station, number, an, member, server, secret, cause, sec, tag, key, held, ValueOf, said_first, Tree, says, text, part, labelled, spoken, octets, nothing, parted, taken, taken_after, after, key_of, held_of, ended, last_of, last_octets, station_of, number_of, an_of, member_of, server_of, secret_of, octets_of, said_by, tags, and_then, kept_if, along}
use Rattle.transcript.proofs.Said.{same_some, kept, steps, mapped, chosen, the_word, Tells, station_tells, number_tells, an_tells, member_tells, server_tells, secret_tells, octets_tells, said_each}
use Rattle.transcript.proofs.Tabled.{AreSmall, Back, cause-back, sec-back}
use Rattle.transcript.specs.inside.Tables.{named}

-- the words of a fact are these, and those that are left
pub record Left (names : List (List ℕ)) (before : List Word) (ws : List (List ℕ)) (fact : Fact) : Type 0 where
  pub more : List Word
  pub split : words fact ≡ before ++ more
  pub back : Back names more ws

-- the words of a part that says a value
abbrev pub part_words : (p : Part) → ValueOf p → List Word
part_words station s = Words.station s ∷ []
part_words (number bits) n = Words.number bits n ∷ []
part_words an a = an_word a ∷ []
part_words member mi = Words.array 12 mi.0 ∷ []
part_words server mi = server_word mi ∷ []
part_words secret sak = secret_word sak ∷ []
part_words cause c = Words.text (cause_text c) ∷ []
part_words sec b = Words.text (frame_text b) ∷ []
part_words tag t = Words.text (tag_text t) ∷ []
part_words key id = key_words id []
part_words held k = held_words k.station k.id k.an []

-- each fact that a tree says behind these words has these words first
abbrev pub Sound : List Word → Tree → Type 0
Sound before (says fact) = words fact ≡ before
Sound before (text letters next other) = AreSmall letters × Sound (before ++ Words.text letters ∷ []) next × Sound before other
Sound before (part p next) = (x : ValueOf p) → Sound (before ++ part_words p x) (next x)
Sound before (labelled letters p next) =
    AreSmall letters × ((x : ValueOf p) → Sound (before ++ Words.text letters ∷ part_words p x) (next x))
Sound before (spoken f) = (names ws : List (List ℕ)) (fact : Fact) → f ws ≡ Some fact → Left names before ws fact
Sound before (octets f) = (xs : List ℕ) → words (f xs) ≡ before ++ Words.octets xs ∷ []
Sound before nothing = Unit {0}

-- the words of a fact are these words and then those left
pub record Tell (names : List (List ℕ)) (before : List Word) (left : List (List ℕ)) (fact : Fact) : Type 0 where
  pub spells : map (spelled names) (words fact) ≡ map (spelled names) before ++ left
  pub fits : AllFit names (words fact)

all_both : (names : List (List ℕ)) (before more : List Word) → AllFit names before → AllFit names more → AllFit names (before ++ more)
all_both names [] more fit too = too
all_both names (b ∷ bs) more fit too = (fit.0, all_both names bs more fit.1 too)

-- these words stand first, and those are left
record Begins (names : List (List ℕ)) (given : List Word) (ws left : List (List ℕ)) : Type 0 where
  pub spells : map (spelled names) given ++ left ≡ ws
  pub fits : AllFit names given

-- a word more, before them
begins_word : (names : List (List ℕ)) (w : Word) (given : List Word) (word : List ℕ) (ws left : List (List ℕ)) → Tells names word w
    → Begins names given ws left → Begins names (w ∷ given) (word ∷ ws) left
begins_word names w given word ws left t b = record {
  spells = ap (λ v. v ∷ map (spelled names) given ++ left) t.spells ∙ ap (λ vs. word ∷ vs) b.spells;
  fits = (t.fits, b.fits);
}

-- one list of words, and then another
begins_both : (names : List (List ℕ)) (these those : List Word) (ws middle left : List (List ℕ)) → Begins names these ws middle
    → Begins names those middle left → Begins names (these ++ those) ws left
begins_both names these those ws middle left a b = record {
  spells = ap (λ vs. vs ++ left) (map-append (spelled names) these those) ∙ append_assoc (map (spelled names) these) (map (spelled names) those) left
      ∙ ap (λ vs. map (spelled names) these ++ vs) b.spells ∙ a.spells;
  fits = all_both names these those a.fits b.fits;
}

-- the words of a fact, from some of them on
earlier : (names : List (List ℕ)) (before more : List Word) (ws left : List (List ℕ)) (fact : Fact) → Begins names more ws left
    → Tell names (before ++ more) left fact → Tell names before ws fact
earlier names before more ws left fact b tell = record {
  spells = tell.spells ∙ ap (λ vs. vs ++ left) (map-append (spelled names) before more)
      ∙ append_assoc (map (spelled names) before) (map (spelled names) more) left ∙ ap (λ vs. map (spelled names) before ++ vs) b.spells;
  fits = tell.fits;
}

no_words : (names left : List (List ℕ)) → Begins names [] left left
no_words names left = record { spells = refl; fits = tt }

-- a word was taken
took : {A : Type 0} (names : List (List ℕ)) (read : List ℕ → Option A) (listed : A → Word)
    → ((word : List ℕ) (x : A) → read word ≡ Some x → Tells names word (listed x))
    → (ws : List (List ℕ)) (x : A × List (List ℕ)) → taken read ws ≡ Some x → Begins names (listed x.0 ∷ []) ws x.1
took names read listed tells [] x e = absurd cc
took names read listed tells (word ∷ words) x e =
    let p = steps (read word) (λ y. Some (y, words)) x e in
    let same : (p.0, words) ≡ x = same_some (p.0, words) x p.2 in
    subst (λ y. Begins names (listed y.0 ∷ []) (word ∷ words) y.1) same
    (begins_word names (listed p.0) [] word words words (tells word p.0 p.1) (no_words names words))

-- a table's word
abbrev IsWord : {A : Type 0} → (A → List ℕ) → List ℕ → A → Type 0
IsWord letters word x = (word ≡ letters x) × AreSmall word

parts : (ws : List (List ℕ)) (x : List ℕ × List (List ℕ)) → parted ws ≡ Some x → ws ≡ x.0 ∷ x.1
parts [] x e = absurd cc
parts (word ∷ words) x e =
    let same : (word, words) ≡ x = same_some (word, words) x e in
    ap (λ p. p.0 ∷ p.1) same

none_left : (fact given : Fact) (ws : List (List ℕ)) → ended given ws ≡ Some fact → (ws ≡ []) × (given ≡ fact)
none_left fact given [] e = (refl, same_some given fact e)
none_left fact given (word ∷ words) e = absurd cc

at_end : (names : List (List ℕ)) (before : List Word) (ws : List (List ℕ)) (fact given : Fact) → words given ≡ before → AllFit names before
    → (ws ≡ []) × (given ≡ fact) → Tell names before ws fact
at_end names before ws fact given e fit p =
    let same : words fact ≡ before = ap words (sym p.1) ∙ e in
    record {
      spells = ap (map (spelled names)) same ∙ sym (append-nil (map (spelled names) before)) ∙ ap (λ v. map (spelled names) before ++ v) (sym p.0);
      fits = subst (AllFit names) (sym same) fit;
    }

letters_tell : (names : List (List ℕ)) (word letters : List ℕ) → word ≡ letters → AreSmall letters → Tells names word (Words.text letters)
letters_tell names word letters e small = record { spells = sym e; fits = small }

lone : (ws : List (List ℕ)) (word : List ℕ) → last_of ws ≡ Some word → ws ≡ word ∷ []
lone [] word e = absurd cc
lone (first ∷ []) word e = ap (λ w. w ∷ []) (same_some first word e)
lone (first ∷ second ∷ words) word e = absurd cc

cause_row : (names : List (List ℕ)) (word : List ℕ) (x : Cause) → named cause_text causes word ≡ Some x → Tells names word (Words.text (cause_text x))
cause_row names word x e =
    let p = cause-back word x e in
    record { spells = sym p.0; fits = subst AreSmall p.0 p.1 }

sec_row : (names : List (List ℕ)) (word : List ℕ) (x : Bool) → named frame_text secs word ≡ Some x → Tells names word (Words.text (frame_text x))
sec_row names word x e =
    let p = sec-back word x e in
    record { spells = sym p.0; fits = subst AreSmall p.0 p.1 }

tag_row : (names : List (List ℕ)) (word : List ℕ) (x : TagRefusal) → said_by tags word ≡ Some x → Tells names word (Words.text (tag_text x))
tag_row names word x e =
    let p = said_each (IsWord tag_text) tags word x ((refl, refl), ((refl, refl), ((refl, refl), ((refl, refl), ((refl, refl), tt))))) e in
    record { spells = sym p.0; fits = subst AreSmall p.0 p.1 }

-- a word that is these letters
after_letters : (names : List (List ℕ)) (letters : List ℕ) → AreSmall letters → (ws left : List (List ℕ)) → after letters ws ≡ Some left
    → Begins names (Words.text letters ∷ []) ws left
after_letters names letters small ws left e =
    let p = steps (parted ws) (λ x. kept_if (is_word x.0 letters) x.1) left e in
    let k = kept (is_word p.0.0 letters) p.0.1 left p.2 in
    let w = letters_tell names p.0.0 letters (the_word p.0.0 letters k.0) small in
    subst (λ vs. Begins names (Words.text letters ∷ []) vs left) (sym (parts ws p.0 p.1 ∙ ap (λ vs. p.0.0 ∷ vs) k.1))
    (begins_word names (Words.text letters) [] p.0.0 left left w (no_words names left))

member_first : (names ws : List (List ℕ)) (x : Mi × List (List ℕ)) → taken member_of ws ≡ Some x → Begins names (Words.array 12 x.0.0 ∷ []) ws x.1
member_first names ws x e = took names member_of (λ mi. Words.array 12 mi.0) (member_tells names) ws x e

number_first : (names : List (List ℕ)) (bits : ℕ) (ws : List (List ℕ)) (x : ℕ × List (List ℕ)) → taken (number_of bits) ws ≡ Some x
    → Begins names (Words.number bits x.0 ∷ []) ws x.1
number_first names bits ws x e = took names (number_of bits) (λ n. Words.number bits n) (number_tells names bits) ws x e

station_first : (names ws : List (List ℕ)) (x : ℕ × List (List ℕ)) → taken (station_of names) ws ≡ Some x → Begins names (Words.station x.0 ∷ []) ws x.1
station_first names ws x e = took names (station_of names) (λ s. Words.station s) (station_tells names) ws x e

an_first : (names ws : List (List ℕ)) (x : AssociationNumber × List (List ℕ)) → taken an_of ws ≡ Some x → Begins names (an_word x.0 ∷ []) ws x.1
an_first names ws x e = took names an_of an_word (an_tells names) ws x e

key_first : (names ws : List (List ℕ)) (x : KeyId × List (List ℕ)) → key_of ws ≡ Some x → Begins names (key_words x.0 []) ws x.1
key_first names ws x e =
    let p = steps (taken member_of ws) (λ x. and_then (taken (number_of 32) x.1) (λ y. Some (record { server = x.0; number = y.0 }, y.1))) x e in
    let q = steps (taken (number_of 32) p.0.1) (λ y. Some (record { server = p.0.0; number = y.0 }, y.1)) x p.2 in
    let id : KeyId = record { server = p.0.0; number = q.0.0 } in
    subst (λ (y : KeyId × List (List ℕ)). Begins names (key_words y.0 []) ws y.1) (same_some (id, q.0.1) x q.2)
    (begins_both names (Words.array 12 p.0.0.0 ∷ []) (Words.number 32 q.0.0 ∷ []) ws p.0.1 q.0.1
    (member_first names ws p.0 p.1) (number_first names 32 p.0.1 q.0 q.1))

held_first : (names ws : List (List ℕ)) (x : Held × List (List ℕ)) → held_of names ws ≡ Some x
    → Begins names (held_words x.0.station x.0.id x.0.an []) ws x.1
held_first names ws x e =
    let p = steps (taken (station_of names) ws) (λ x. and_then (key_of x.1)
    (λ y. and_then (taken_after (codes "an") an_of y.1) (λ z. Some (record { station = x.0; id = y.0; an = z.0 }, z.1)))) x e in
    let q = steps (key_of p.0.1) (λ y. and_then (taken_after (codes "an") an_of y.1)
    (λ z. Some (record { station = p.0.0; id = y.0; an = z.0 }, z.1))) x p.2 in
    let r = steps (taken_after (codes "an") an_of q.0.1) (λ z. Some (record { station = p.0.0; id = q.0.0; an = z.0 }, z.1)) x q.2 in
    let l = steps (after (codes "an") q.0.1) (λ others. taken an_of others) r.0 r.1 in
    let k : Held = record { station = p.0.0; id = q.0.0; an = r.0.0 } in
    subst (λ (y : Held × List (List ℕ)). Begins names (held_words y.0.station y.0.id y.0.an []) ws y.1) (same_some (k, r.0.1) x r.2)
    (begins_both names (Words.station p.0.0 ∷ []) (key_words q.0.0 (an_words r.0.0 [])) ws p.0.1 r.0.1 (station_first names ws p.0 p.1)
    (begins_both names (key_words q.0.0 []) (an_words r.0.0 []) p.0.1 q.0.1 r.0.1 (key_first names p.0.1 q.0 q.1)
    (begins_both names (Words.text (codes "an") ∷ []) (an_word r.0.0 ∷ []) q.0.1 l.0 r.0.1 (after_letters names (codes "an") refl q.0.1 l.0 l.1)
    (an_first names l.0 r.0 l.2))))

-- what is said first has its words
part_first : (names ws : List (List ℕ)) (p : Part) (x : ValueOf p × List (List ℕ)) → said_first names p ws ≡ Some x
    → Begins names (part_words p x.0) ws x.1
part_first names ws station x e = station_first names ws x e
part_first names ws (number bits) x e = number_first names bits ws x e
part_first names ws an x e = an_first names ws x e
part_first names ws member x e = member_first names ws x e
part_first names ws server x e = took names server_of server_word (server_tells names) ws x e
part_first names ws secret x e = took names secret_of secret_word (secret_tells names) ws x e
part_first names ws cause x e = took names (named cause_text causes) (λ c. Words.text (cause_text c)) (cause_row names) ws x e
part_first names ws sec x e = took names (named frame_text secs) (λ b. Words.text (frame_text b)) (sec_row names) ws x e
part_first names ws tag x e = took names (said_by tags) (λ t. Words.text (tag_text t)) (tag_row names) ws x e
part_first names ws key x e = key_first names ws x e
part_first names ws held x e = held_first names ws x e

-- a value that the words left say is what a fact tells behind these words
pub left_by : {A : Type 0} (listed : A → List Word) (read : List (List ℕ) → Option A)
    → ((names ws : List (List ℕ)) (x : A) → read ws ≡ Some x → Back names (listed x) ws)
    → (before : List Word) (f : A → Fact) → ((x : A) → words (f x) ≡ before ++ listed x) → Sound before (spoken (λ ws. option_map f (read ws)))
left_by listed read back before f same = λ names ws fact e.
    let p = mapped f (read ws) fact e in
    record { more = listed p.0; split = ap words (sym p.2) ∙ same p.0; back = back names ws p.0 p.1 }

-- what words say along a sound tree
pub tells : (names : List (List ℕ)) (before : List Word) (tree : Tree) (ws : List (List ℕ)) (fact : Fact) → Sound before tree → AllFit names before
    → along names tree ws ≡ Some fact → Tell names before ws fact
tells names before (says given) ws fact sound fit e = at_end names before ws fact given sound fit (none_left fact given ws e)
tells names before (text letters next other) ws fact sound fit e =
    let p = steps (parted ws) (λ x. if is_word x.0 letters then along names next x.1 else along names other ws) fact e in
    let split = parts ws p.0 p.1 in
    elim (chosen (is_word p.0.0 letters) (along names next p.0.1) (along names other ws) fact p.2) [
      | inl here ↦
          let w = letters_tell names p.0.0 letters (the_word p.0.0 letters here.0) sound.0 in
          subst (λ vs. Tell names before vs fact) (sym split)
          (earlier names before (Words.text letters ∷ []) (p.0.0 ∷ p.0.1) p.0.1 fact
          (begins_word names (Words.text letters) [] p.0.0 p.0.1 p.0.1 w (no_words names p.0.1))
          (tells names (before ++ Words.text letters ∷ []) next p.0.1 fact sound.1 (all_both names before (Words.text letters ∷ []) fit (w.fits, tt)) here.1))
      | inr later ↦ tells names before other ws fact sound.2 fit later.1
    ]
tells names before (part p next) ws fact sound fit e =
    let q = steps (said_first names p ws) (λ x. along names (next x.0) x.1) fact e in
    let b = part_first names ws p q.0 q.1 in
    let given = part_words p q.0.0 in
    earlier names before given ws q.0.1 fact b
    (tells names (before ++ given) (next q.0.0) q.0.1 fact (sound q.0.0) (all_both names before given fit b.fits) q.2)
tells names before (labelled letters p next) ws fact sound fit e =
    let q = steps (and_then (after letters ws) (λ others. said_first names p others)) (λ x. along names (next x.0) x.1) fact e in
    let l = steps (after letters ws) (λ others. said_first names p others) q.0 q.1 in
    let given = Words.text letters ∷ part_words p q.0.0 in
    let b = begins_both names (Words.text letters ∷ []) (part_words p q.0.0) ws l.0 q.0.1 (after_letters names letters sound.0 ws l.0 l.1)
    (part_first names l.0 p q.0 l.2) in
    earlier names before given ws q.0.1 fact b
    (tells names (before ++ given) (next q.0.0) q.0.1 fact (sound.1 q.0.0) (all_both names before given fit b.fits) q.2)
tells names before (spoken f) ws fact sound fit e =
    let l = sound names ws fact e in
    record {
      spells = ap (map (spelled names)) l.split ∙ map-append (spelled names) before l.more ∙ ap (λ v. map (spelled names) before ++ v) l.back.spells;
      fits = subst (AllFit names) (sym l.split) (all_both names before l.more fit l.back.fits);
    }
tells names before (octets f) ws fact sound fit e =
    let p = mapped f (last_octets ws) fact e in
    let q = steps (last_of ws) octets_of p.0 p.1 in
    let w = octets_tells names q.0 p.0 q.2 in
    subst (λ vs. Tell names before vs fact) (sym (lone ws q.0 q.1))
    (earlier names before (Words.octets p.0 ∷ []) (q.0 ∷ []) [] fact (begins_word names (Words.octets p.0) [] q.0 [] [] w (no_words names []))
    (at_end names (before ++ Words.octets p.0 ∷ []) [] fact (f p.0) (sound p.0) (all_both names before (Words.octets p.0 ∷ []) fit (w.fits, tt)) (refl, p.2)))
tells names before nothing ws fact sound fit e = absurd cc
