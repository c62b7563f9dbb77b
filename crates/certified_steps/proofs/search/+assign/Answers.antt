use Rattle.std.proofs.Common.{◌≡◌, ℕ, None, List, [], ◌∷◌, ◌++◌, sym, ap, ap₂, subst, ◌∙◌, rules}
use Rattle.rule_syntax.specs.declared.syntax.Assignment.{Assignment}
use Rattle.rule_paths.specs.Relations.{Expression}
use Rattle.rule_paths.specs.Stores.{Store}
use Rattle.rule_paths.specs.Paths as paths
use Rattle.rule_paths.specs.Paths.{has_32_bits, store_with}
use Rattle.rule_formulas.specs.declared.stores.Write.{Write}
use Rattle.rule_formulas.specs.Numbers.{integers}
use Rattle.rule_formulas.specs.Stores.{written_store, store_from}
use Rattle.rule_formulas.specs.Forms.{IsFormed, IsValued}
use Rattle.rule_formulas.proofs.StoreLists.{store_from_push}
use Rattle.certified_steps.specs.declared.search.Assigned.{Assigned}
use Rattle.certified_steps.specs.Searching.{IsAssigned}
use Rattle.certified_steps.proofs.search.+assign.Goals as goal

pub returns-in_ok-push-in-One : goal.returns-in_ok-push-in-One
returns-in_ok-push-in-One t c =
    let s : Store = written_store c.args.store.now in
    let k = c.args.k in
    let f = paths.found_term None c.in-One.e s k in
    let hx : IsValued c.in_ok-x-in-One.x (paths.numbered f) = c.in_ok-x-in-One.ensures f c.in_ok-f-in-One.ensures in
    let made : Assigned = record { facts = c.in_ok-x-in-One.x.facts; writes = c.push.new.self; next = c.in_ok-x-in-One.x.next } in
    let new : Write = record { target = c.in-One.target; number = c.in_ok-x-in-One.x.number } in
    let none : c.new-writes.result.items ≡ [] = search rules in
    let items : c.push.new.self.items ≡ new ∷ [] = c.in_ok-push-in-One.ensures.items ∙ ap (λ (l : List Write). l ++ new ∷ []) none in
    subst (λ (a : Assignment). IsAssigned made a c.args.store.now k) (sym c.in-One.is) (record {
      facts = hx.facts;
      store = ap (λ (l : List Write). store_from l s) items ∙ ap (λ (e : Expression). store_with c.in-One.target e s) hx.number;
      next = hx.next;
    })

pub returns-in_ok-both-in-Also : goal.returns-in_ok-both-in-Also
returns-in_ok-both-in-Also t c =
    let s : Store = written_store c.args.store.now in
    let k = c.args.k in
    let front = c.in_ok-facts-in-Also.field-0 in
    let ff = paths.all_stored c.in-Also.front.value s k in
    let hf : IsAssigned front c.in-Also.front.value c.args.store.now k =
    subst (λ (a : Assignment). IsAssigned front a c.args.store.now k) c.deref.ensures c.in_ok-facts-in-Also.ensures in
    let f = paths.found_term None c.in-Also.e s ff.next in
    let hx : IsValued c.in_ok-x-in-Also.x (paths.numbered f) =
    c.in_ok-x-in-Also.ensures f (subst (λ (n : ℕ). IsFormed c.in_ok-f-in-Also.f (paths.found_term None c.in-Also.e s n)) hf.next c.in_ok-f-in-Also.ensures) in
    let made : Assigned = record { facts = c.in_ok-both-in-Also.field-0; writes = c.push-in-Also.new.self; next = c.in_ok-x-in-Also.x.next } in
    let new : Write = record { target = c.in-Also.target; number = c.in_ok-x-in-Also.x.number } in
    subst (λ (a : Assignment). IsAssigned made a c.args.store.now k) (sym c.in-Also.is) (record {
      facts = λ v h. c.in_ok-both-in-Also.ensures (integers v) (hf.facts v h.0) (hx.facts v h.1);
      store = ap (λ (l : List Write). store_from l s) c.in_ok-push-in-Also.ensures.items ∙ store_from_push front.writes.items new s
          ∙ ap₂ (λ (e : Expression) (r : Store). store_with c.in-Also.target e r) hx.number hf.store;
      next = hx.next;
    })
