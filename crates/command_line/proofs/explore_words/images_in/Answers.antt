use Rattle.std.proofs.Common.{◌≡◌, ◌++◌, ◌∷◌, [], ap, inl, inr, length, sym, map, ⊎_elim, subst, rules, ◌∙◌}
use Rattle.std.specs.List.{AllZip}
use Rattle.std.proofs.Math.Dec.{lit<}
use Rattle.std.proofs.lemmas.Iterator.Consumers.{YieldsList-end, YieldsList-turn}
use Rattle.std.proofs.lemmas.Iterator.Splits.{YieldsList-from_str_split}
use Rattle.command_line.specs.Explore.{IsMemoryImage}
use Rattle.command_line.specs.Lists.{comma_parts}
use Rattle.command_line.proofs.NumberLemmas.{map_push, zip_none, zip_push}
use Rattle.command_line.proofs.explore_words.images_in.Goals as goal

pub loop-part-preserved : goal.loop-part-preserved
loop-part-preserved c =
    let made : c.push.new.self.items ≡ c.loop-part.images.items ++ c.in-Ok.image ∷ [] = search rules in
    let bytes : map (λ v. v.items) c.push.new.self.items
    ≡ map (λ v. v.items) c.loop-part.images.items ++ c.in-Ok.image.items ∷ [] =
    ap (map (λ v. v.items)) made ∙ map_push (λ v. v.items) c.loop-part.images.items c.in-Ok.image in
    subst (AllZip IsMemoryImage (map (λ part. part.now) (c.loop-part.yielded ++ c.in-Some.part ∷ []))) (sym bytes)
    (rw map_push (zip_push IsMemoryImage (map (λ part. part.now) c.loop-part.yielded)
    (map (λ v. v.items) c.loop-part.images.items) c.in-Some.part.now c.in-Ok.image.items c.loop-part.invariant
    c.in-Ok.ensures.image))

pub returns-clause-images : goal.returns-clause-images
returns-clause-images c =
    let all : map (λ part. part.now) c.loop-part.yielded ≡ comma_parts c.args.text.now =
    (YieldsList-end (YieldsList-from_str_split 44 c.args.text.now (lit< tt) (cc) (cc) (cc)) c.loop-part.yielded _
    c.loop-part.yielded_by _ _ c.in-None.is c.next.ensures.steps).0 in
    subst (λ parts. AllZip IsMemoryImage parts (map (λ v. v.items) c.loop-part.images.items)) all c.loop-part.invariant

pub returns-in-Err-clause-rejected : goal.returns-in-Err-clause-rejected
returns-in-Err-clause-rejected c =
    let turn = YieldsList-turn (YieldsList-from_str_split 44 c.args.text.now (lit< tt) (cc) (cc) (cc))
    c.loop-part.yielded _ c.loop-part.yielded_by _ _ _ c.in-Some.is c.next.ensures.steps in
    ⊎_elim (λ memory. inl memory) (λ none. inr (λ images all.
    zip_none IsMemoryImage (comma_parts c.args.text.now) (length c.loop-part.yielded) c.in-Some.part.now turn.0 turn.1
    none images all)) c.in-Err.ensures.other
