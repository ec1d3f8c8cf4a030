-- What reading takes from the front.
use Rattle.std.proofs.Common.{◌≡◌, ℕ, ◌+◌, ◌/◌, ◌<◌, ◌≤◌, true, false, cond, ltb, List, ◌++◌, length, get_or, take, drop, Option, Some, None, refl, sym, ap, ◌∙◌, arith, length-append, length-drop}
use Rattle.std.proofs.lemmas.Bool.{ltb-false, ltb-true}
use Rattle.std.proofs.lemmas.List.{take_at, drop_at}
use Rattle.lan_base.specs.declared.address.Mi.{Mi}
use Rattle.byteorder.specs.Endian.{big_number}
use Rattle.mkpdu_codec.specs.declared.peer.Peer.{Peer}
use Rattle.mkpdu_codec.specs.Sets.{missing}
use Rattle.mkpdu_codec.specs.Frames.{Set}
use Rattle.mkpdu_codec.specs.Refusals.{front_length}
use Rattle.mkpdu_codec.specs.Fields.{◌>>=◌, octets_at, number_at, mi_at, entry_at, set_at}

-- the value of a step that found something
pub bind_some : {A B : Type 0} (o : Option A) (f : A → Option B) (y : B) → (o >>= f) ≡ Some y → (x : A) × (o ≡ Some x) × (f x ≡ Some y)
bind_some (Some x) f y e = (x, refl, e)
bind_some None f y e = absurd cc

-- octets that were found
pub record Took (n : ℕ) (octets front rest : List ℕ) : Type 0 where
  pub front_is : front ≡ take n octets
  pub rest_is : rest ≡ drop n octets
  pub enough : n ≤ length octets

pub octets_at-took : (n : ℕ) (octets : List ℕ) (x : List ℕ × List ℕ) → octets_at n octets ≡ Some x → Took n octets x.0 x.1
octets_at-took n octets x e =
    elim (ltb (length octets) n) as (λ b. ltb (length octets) n ≡ b → cond b None (Some (take n octets, drop n octets)) ≡ Some x → Took n octets x.0 x.1) [
      | true ↦ λ t d. absurd cc
      | false ↦ λ t d. let p : (take n octets, drop n octets) ≡ x = cc in record { front_is = sym (ap (λ (y : List ℕ × List ℕ). y.0) p); rest_is = sym (ap (λ (y : List ℕ × List ℕ). y.1) p); enough = ltb-false _ _ t }
    ] refl e

pub octets_at-long : (n : ℕ) (octets : List ℕ) → n ≤ length octets → octets_at n octets ≡ Some (take n octets, drop n octets)
octets_at-long n octets le =
    let both : List ℕ × List ℕ = (take n octets, drop n octets) in
    elim (ltb (length octets) n) as (λ b. ltb (length octets) n ≡ b → cond b None (Some both) ≡ Some both) [
      | true ↦ λ t. absurd (let lt : length octets < n = ltb-true _ _ t in omega arith)
      | false ↦ λ t. refl
    ] refl

pub number_at-took : (octets : List ℕ) (x : ℕ × List ℕ) → number_at octets ≡ Some x → (x.0 ≡ big_number 4 (take 4 octets)) × (x.1 ≡ drop 4 octets) × (4 ≤ length octets)
unfolding number_at
number_at-took octets x e =
    let a = bind_some (octets_at 4 octets) (λ number. Some (big_number 4 number.0, number.1)) x e in
    let t = octets_at-took 4 octets a.0 a.1 in
    let p : (big_number 4 a.0.0, a.0.1) ≡ x = cc in
    (sym (ap (λ (y : ℕ × List ℕ). y.0) p) ∙ ap (big_number 4) t.front_is, sym (ap (λ (y : ℕ × List ℕ). y.1) p) ∙ t.rest_is, t.enough)

pub mi_at-took : (octets : List ℕ) (x : Mi × List ℕ) → mi_at octets ≡ Some x → (x.0 ≡ record { 0 = take 12 octets }) × (x.1 ≡ drop 12 octets) × (12 ≤ length octets)
unfolding mi_at
mi_at-took octets x e =
    let made : List ℕ → Mi = λ mi. record { 0 = mi } in
    let a = bind_some (octets_at 12 octets) (λ mi. Some (made mi.0, mi.1)) x e in
    let t = octets_at-took 12 octets a.0 a.1 in
    let p : (made a.0.0, a.0.1) ≡ x = cc in
    (sym (ap (λ (y : Mi × List ℕ). y.0) p) ∙ ap made t.front_is, sym (ap (λ (y : Mi × List ℕ). y.1) p) ∙ t.rest_is, t.enough)

-- what an entry takes
pub entry_at-shorter : (octets : List ℕ) (x : Peer × List ℕ) → entry_at octets ≡ Some x → length x.1 + 16 ≡ length octets
unfolding entry_at
entry_at-shorter octets x e =
    let made : Mi → ℕ → Peer = λ mi mn. record { mi = mi; mn = mn } in
    let a = bind_some (mi_at octets) (λ mi. number_at mi.1 >>= λ mn. Some (made mi.0 mn.0, mn.1)) x e in
    let b = bind_some (number_at a.0.1) (λ mn. Some (made a.0.0 mn.0, mn.1)) x a.2 in
    let t = mi_at-took octets a.0 a.1 in
    let u = number_at-took a.0.1 b.0 b.1 in
    let p : (made a.0.0 b.0.0, b.0.1) ≡ x = cc in
    let rest : x.1 ≡ b.0.1 = sym (ap (λ (y : Peer × List ℕ). y.1) p) in
    omega (arith, ap length rest, ap length t.1, ap length u.1, t.2, u.2, length-drop 12 octets, length-drop 4 a.0.1)

-- what a set takes
pub set_at-shorter : (octets : List ℕ) (x : Set × List ℕ) → set_at octets ≡ Some x → length x.1 + 4 ≤ length octets
unfolding set_at
set_at-shorter octets x e =
    let made : List ℕ → List ℕ → Set = λ h w. record { kind = get_or h 0 0; second = get_or h 1 0; flags = get_or h 2 0 / 16; body = take (front_length h) w } in
    let a = bind_some (octets_at 4 octets) (λ h. octets_at (front_length h.0 + missing (front_length h.0)) h.1 >>= λ w. Some (made h.0 w.0, w.1)) x e in
    let b = bind_some (octets_at (front_length a.0.0 + missing (front_length a.0.0)) a.0.1) (λ w. Some (made a.0.0 w.0, w.1)) x a.2 in
    let t = octets_at-took 4 octets a.0 a.1 in
    let u = octets_at-took (front_length a.0.0 + missing (front_length a.0.0)) a.0.1 b.0 b.1 in
    let p : (made a.0.0 b.0.0, b.0.1) ≡ x = cc in
    let rest : x.1 ≡ b.0.1 = sym (ap (λ (y : Set × List ℕ). y.1) p) in
    omega (arith, ap length rest, ap length t.rest_is, ap length u.rest_is, t.enough, length-drop 4 octets, length-drop (front_length a.0.0 + missing (front_length a.0.0)) a.0.1)

pub octets_at-short : (n : ℕ) (octets : List ℕ) → length octets < n → octets_at n octets ≡ None
octets_at-short n octets lt =
    let both : List ℕ × List ℕ = (take n octets, drop n octets) in
    elim (ltb (length octets) n) as (λ b. ltb (length octets) n ≡ b → cond b None (Some both) ≡ None) [
      | true ↦ λ t. refl
      | false ↦ λ t. absurd (let le : n ≤ length octets = ltb-false _ _ t in omega arith)
    ] refl

-- octets in front of others
pub octets_at-append : (n : ℕ) (front rest : List ℕ) → length front ≡ n → octets_at n (front ++ rest) ≡ Some (front, rest)
octets_at-append n front rest len =
    octets_at-long n (front ++ rest) (omega (arith, length-append front rest)) ∙ rw (take_at front rest n len, drop_at front rest n len) refl
