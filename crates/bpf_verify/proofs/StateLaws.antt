-- Containment of abstract states, and what edges leave where they meet.
use Rattle.std.proofs.Common.{◌≡◌, Bool, true, false, ◌&&◌, min, max, refl, ap, subst, arith}
use Rattle.value_range.specs.Span.{Span, IsInside, hull_of}
use Rattle.node_env.specs.declared.region.Region.TheVariants.{Mem, Stack}
use Rattle.bpf_verify.specs.declared.abstract_value.AbstractValue.{AbstractValue}
use Rattle.bpf_verify.specs.declared.abstract_value.AbstractValue.TheVariants.{Unset, Number, Pointer}
use Rattle.bpf_verify.specs.States.{AbstractState, IsKindIn, IsContainedIn, joined_kind, joined_state}
use Rattle.bpf_verify.proofs.KindLaws.{same_state}

pub inside_itself : (a : Span) → IsInside a a
inside_itself a = record { low = omega arith; high = omega arith }

pub inside_further : (a b c : Span) → IsInside a b → IsInside b c → IsInside a c
inside_further a b c p q = record { low = omega (arith, p.low, q.low); high = omega (arith, p.high, q.high) }

pub hull_first : (a b : Span) → IsInside a (hull_of a b)
hull_first a b = record { low = omega arith; high = omega arith }

pub hull_second : (a b : Span) → IsInside b (hull_of a b)
hull_second a b = record { low = omega arith; high = omega arith }

pub kind_in_itself : (k : AbstractValue) → IsKindIn k k
kind_in_itself Unset = tt
kind_in_itself (Number a) = (a, refl, inside_itself a)
kind_in_itself (Pointer region a) = (a, refl, inside_itself a)

pub kind_further : (k l m : AbstractValue) → IsKindIn k l → IsKindIn l m → IsKindIn k m
kind_further k l Unset p q = tt
kind_further k l (Number c) p (b, e, g) =
    let h = subst (IsKindIn k) e p in (h.0, h.1, inside_further h.0 b c h.2 g)
kind_further k l (Pointer region c) p (b, e, g) =
    let h = subst (IsKindIn k) e p in (h.0, h.1, inside_further h.0 b c h.2 g)

joined_first_kind : (k l : AbstractValue) → IsKindIn k (joined_kind k l)
joined_first_kind Unset l = tt
joined_first_kind (Number a) Unset = tt
joined_first_kind (Number a) (Number b) = (a, refl, hull_first a b)
joined_first_kind (Number a) (Pointer region b) = tt
joined_first_kind (Pointer region a) Unset = tt
joined_first_kind (Pointer region a) (Number b) = tt
joined_first_kind (Pointer Mem a) (Pointer Mem b) = (a, refl, hull_first a b)
joined_first_kind (Pointer Stack a) (Pointer Stack b) = (a, refl, hull_first a b)
joined_first_kind (Pointer Mem a) (Pointer Stack b) = tt
joined_first_kind (Pointer Stack a) (Pointer Mem b) = tt

joined_second_kind : (k l : AbstractValue) → IsKindIn l (joined_kind k l)
joined_second_kind Unset l = tt
joined_second_kind (Number a) Unset = tt
joined_second_kind (Number a) (Number b) = (b, refl, hull_second a b)
joined_second_kind (Number a) (Pointer region b) = tt
joined_second_kind (Pointer region a) Unset = tt
joined_second_kind (Pointer region a) (Number b) = tt
joined_second_kind (Pointer Mem a) (Pointer Mem b) = (b, refl, hull_second a b)
joined_second_kind (Pointer Stack a) (Pointer Stack b) = (b, refl, hull_second a b)
joined_second_kind (Pointer Mem a) (Pointer Stack b) = tt
joined_second_kind (Pointer Stack a) (Pointer Mem b) = tt

and_true : (a b : Bool) → (a && b) ≡ true → (a ≡ true) × (b ≡ true)
and_true true b e = (refl, e)
and_true false b e = absurd cc

pub contained_in_itself : (A : AbstractState) → IsContainedIn A A
contained_in_itself A = record {
  kinds = λ n. kind_in_itself (A.kinds n);
  written = λ b e. e;
  entries = λ n. kind_in_itself (A.entries n);
}

pub contained_further : (A B C : AbstractState) → IsContainedIn A B → IsContainedIn B C → IsContainedIn A C
contained_further A B C p q =
    record {
      kinds = λ n. kind_further (A.kinds n) (B.kinds n) (C.kinds n) (p.kinds n) (q.kinds n);
      written = λ b e. p.written b (q.written b e);
      entries = λ n. kind_further (A.entries n) (B.entries n) (C.entries n) (p.entries n) (q.entries n);
    }

pub joined_first : (A C : AbstractState) → IsContainedIn A (joined_state A C)
joined_first A C = record {
  kinds = λ n. joined_first_kind (A.kinds n) (C.kinds n);
  written = λ b e. (and_true (A.written b) (C.written b) e).0;
  entries = λ n. joined_first_kind (A.entries n) (C.entries n);
}

pub joined_second : (A C : AbstractState) → IsContainedIn C (joined_state A C)
joined_second A C = record {
  kinds = λ n. joined_second_kind (A.kinds n) (C.kinds n);
  written = λ b e. (and_true (A.written b) (C.written b) e).1;
  entries = λ n. joined_second_kind (A.entries n) (C.entries n);
}

-- ---- the join is the least that contains both

hull_within : (a b c : Span) → IsInside a c → IsInside b c → IsInside (hull_of a b) c
hull_within a b c p q = record { low = omega (arith, p.low, q.low); high = omega (arith, p.high, q.high) }

joined_kind_within : (k l m : AbstractValue) → IsKindIn k m → IsKindIn l m → IsKindIn (joined_kind k l) m
joined_kind_within k l Unset p q = tt
joined_kind_within k l (Number c) (a, e, f) (b, g, h) = rw (e, g) (hull_of a b, refl, hull_within a b c f h)
joined_kind_within k l (Pointer Mem c) (a, e, f) (b, g, h) = rw (e, g) (hull_of a b, refl, hull_within a b c f h)
joined_kind_within k l (Pointer Stack c) (a, e, f) (b, g, h) = rw (e, g) (hull_of a b, refl, hull_within a b c f h)

pub joined_within : (A B C : AbstractState) → IsContainedIn A C → IsContainedIn B C → IsContainedIn (joined_state A B) C
joined_within A B C p q =
    record {
      kinds = λ n. joined_kind_within (A.kinds n) (B.kinds n) (C.kinds n) (p.kinds n) (q.kinds n);
      written = λ b e. rw (p.written b e, q.written b e) refl;
      entries = λ n. joined_kind_within (A.entries n) (B.entries n) (C.entries n) (p.entries n) (q.entries n);
    }

-- ---- the join is the same either way round

hull_either_way : (a b : Span) → hull_of a b ≡ hull_of b a
hull_either_way a b =
    let low : min a.lo b.lo ≡ min b.lo a.lo = omega arith in
    let high : max a.hi b.hi ≡ max b.hi a.hi = omega arith in
    rw (low, high) refl

joined_kinds_either_way : (k l : AbstractValue) → joined_kind k l ≡ joined_kind l k
joined_kinds_either_way Unset Unset = refl
joined_kinds_either_way Unset (Number b) = refl
joined_kinds_either_way Unset (Pointer region b) = refl
joined_kinds_either_way (Number a) Unset = refl
joined_kinds_either_way (Number a) (Number b) = ap Number (hull_either_way a b)
joined_kinds_either_way (Number a) (Pointer region b) = refl
joined_kinds_either_way (Pointer region a) Unset = refl
joined_kinds_either_way (Pointer region a) (Number b) = refl
joined_kinds_either_way (Pointer Mem a) (Pointer Mem b) = ap (Pointer Mem) (hull_either_way a b)
joined_kinds_either_way (Pointer Stack a) (Pointer Stack b) = ap (Pointer Stack) (hull_either_way a b)
joined_kinds_either_way (Pointer Mem a) (Pointer Stack b) = refl
joined_kinds_either_way (Pointer Stack a) (Pointer Mem b) = refl

both_either_way : (a b : Bool) → (a && b) ≡ (b && a)
both_either_way true true = refl
both_either_way true false = refl
both_either_way false true = refl
both_either_way false false = refl

pub joined_either_way : (A C : AbstractState) → joined_state A C ≡ joined_state C A
joined_either_way A C =
    same_state (joined_state A C) (joined_state C A)
    (λ number. joined_kinds_either_way (A.kinds number) (C.kinds number))
    (λ byte. both_either_way (A.written byte) (C.written byte))
    (λ dword. joined_kinds_either_way (A.entries dword) (C.entries dword))
