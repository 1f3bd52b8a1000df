-- The parenthesis at the end of a path, and what it is in the grammar of calls.
use Rattle.std.proofs.Common.{◌≡◌, ℕ, zero, suc, inl, inr, true, false, List, [], ◌∷◌, ◌++◌, refl, sym, ap, ◌∙◌}
use Rattle.std.proofs.Common.{append_assoc, append-nil}
use Rattle.vb_syntax.specs.declared.expression.Expression.{Expression}
use Rattle.vb_syntax.specs.declared.expression.Expression.TheVariants as e
use Rattle.vb_syntax.specs.declared.expression.Expression.TheOpen.{Step-F}
use Rattle.vb_syntax.specs.declared.expression.Operation.{Operation}
use Rattle.vb_syntax.specs.declared.expression.Path.{Path as PathTree}
use Rattle.vb_syntax.specs.declared.expression.Step.{Step, out-Step}
use Rattle.vb_syntax.specs.declared.expression.Step.TheVariants as behind
use Rattle.vb_syntax.specs.declared.expression.Step.TheVariants.{outs-Group}
use Rattle.vb_syntax.specs.grammar.Rules.{Tokens, Rule}
use Rattle.vb_syntax.specs.grammar.Rules as rule
use Rattle.vb_syntax.specs.grammar.Expressions as expressions
use Rattle.vb_syntax.specs.grammar.Expressions.{path_of}
use Rattle.vb_syntax.specs.grammar.Declarations as declarations
use Rattle.vb_syntax.specs.grammar.SimpleStatements as grammar
use Rattle.vb_syntax.specs.grammar.SimpleStatements.{Looser, named_at, ends_in_group, statement}
use Rattle.vb_read.specs.ReadCalls as spec
use Rattle.vb_read.specs.ReadCalls.{Tail, plain, grouped, tail}
use Rattle.vb_read.specs.Depths.{opens}
use Rattle.vb_read.proofs.OperandReading.{empty_pair}
use Rattle.vb_read.proofs.PathReading.{path_group}
use Rattle.vb_read.proofs.Turns.{rules_inside}

-- ---- steps with a parenthesis at the end

pub layer_plain : (l : Step-F Expression Step Operation PathTree) → grammar.is_group_layer l ≡ false
    → spec.tail_of_last (spec.group_of_layer l) ≡ plain
layer_plain (Step-F.Member name) e = refl
layer_plain (Step-F.Group held) e = absurd cc

pub tail_plain : (steps : List Step) → ends_in_group steps ≡ false → tail steps ≡ plain
tail_plain [] e = refl
tail_plain (x ∷ []) e = layer_plain (out-Step x) e
tail_plain (x ∷ y ∷ more) e = ap (spec.tail_behind x) (tail_plain (y ∷ more) e)

pub tail_snoc : (steps : List Step) (held : List Expression) → tail
    (steps ++ behind.Group held ∷ []) ≡ grouped steps held
tail_snoc [] held = ap (λ l. spec.tail_of_last (spec.group_of_layer l)) (outs-Group held)
tail_snoc (x ∷ []) held = ap (spec.tail_behind x) (tail_snoc [] held)
tail_snoc (x ∷ y ∷ more) held = ap (spec.tail_behind x) (tail_snoc (y ∷ more) held)

pub many_snoc : {A : Type 0} (r : Rule A) (xs : List A) (front back : Tokens) (x : A) → rule.many r front xs → r back x
    → rule.many r (front ++ back) (xs ++ x ∷ [])
many_snoc r [] front back x h w = record {
  front = back;
  back = [];
  split = ap (λ t. t ++ back) h ∙ sym (append-nil back);
  first = w;
  second = refl;
}
many_snoc r (y ∷ xs) front back x h w = record {
  front = h.front;
  back = h.back ++ back;
  split = ap (λ t. t ++ back) h.split ∙ append_assoc h.front h.back back;
  first = h.first;
  second = many_snoc r xs h.back back x h.second w;
}

-- ---- a parenthesis that stands for arguments

pub group_step : (depth : ℕ) (group : Tokens) (held : List Expression) → path_group depth group held
    → grammar.path_step depth group (behind.Group held)
group_step zero group held h = absurd (let no : false ≡ true = h.0 in cc)
group_step (suc depth) group held h = inr (record {
  front = group;
  back = [];
  thing = held;
  split = sym (append-nil group);
  first_spells = h;
  next_spells = (refl, refl);
})

-- an empty pair holds nothing
pub pair_group : (depth : ℕ) (front : Tokens) (given : List Expression)
    → declarations.opened depth (λ within. empty_pair (opens depth) (rules_inside depth)) front given
    → path_group depth front [] × (given ≡ [])
pair_group zero front given h = absurd h
pair_group (suc depth) front given h = let c = h.next_spells in (
  (
    refl,
    record {
      front = h.front;
      back = h.back;
      thing = h.thing;
      split = h.split;
      first_spells = h.first_spells;
      next_spells = record {
        front = [];
        back = h.back;
        thing = [];
        split = refl;
        first_spells = inl (refl, refl);
        next_spells = record {
          front = c.front;
          back = c.back;
          thing = c.thing;
          split = c.split;
          first_spells = c.first_spells;
          next_spells = (c.next_spells.0, refl);
        };
      };
    },
  ),
  c.next_spells.1,
)

-- an operand in parentheses holds one expression
pub record Single (depth : ℕ) (front : Tokens) (operand : Expression) : Type 0 where
  pub held : Expression
  pub is : operand ≡ e.Parenthesis held
  pub group : path_group depth front (held ∷ [])

pub operand_group : (depth : ℕ) (front : Tokens) (operand : Expression)
    → expressions.parenthesis (opens depth) (rules_inside depth) front operand → Single depth front operand
operand_group zero front operand h = absurd (let no : false ≡ true = h.0 in cc)
operand_group (suc depth) front operand h = let g = h.1.next_spells in let c = g.next_spells in record {
  held = g.thing;
  is = c.next_spells.1;
  group = (
    h.0,
    record {
      front = h.1.front;
      back = h.1.back;
      thing = h.1.thing;
      split = h.1.split;
      first_spells = h.1.first_spells;
      next_spells = record {
        front = g.front;
        back = g.back;
        thing = g.thing ∷ [];
        split = g.split;
        first_spells = inr (record {
          front = g.front;
          back = [];
          thing = g.thing;
          split = sym (append-nil g.front);
          first_spells = g.first_spells;
          next_spells = record {
            front = [];
            back = [];
            thing = [];
            split = refl;
            first_spells = refl;
            next_spells = (refl, refl);
          };
        });
        next_spells = record {
          front = c.front;
          back = c.back;
          thing = c.thing;
          split = c.split;
          first_spells = c.first_spells;
          next_spells = (c.next_spells.0, refl);
        };
      };
    },
  );
}

-- several expressions in parentheses, of which there are at least two
pub record Several (depth : ℕ) (front : Tokens) (given : List Expression) : Type 0 where
  pub first : Expression
  pub second : Expression
  pub more : List Expression
  pub is : given ≡ first ∷ second ∷ more
  pub group : path_group depth front (first ∷ second ∷ more)

pub several_group : (looser : Looser) (depth : ℕ) (front : Tokens) (given : List Expression)
    → grammar.several looser depth front given → Several depth front given
several_group looser zero front given h = absurd h
several_group looser (suc depth) front given h =
    let f = h.next_spells in let c = f.next_spells in let l = c.next_spells in let i = l.first_spells in
    let m = i.next_spells in let close = l.next_spells in
    let made : l.thing ≡ i.thing ∷ m.thing = m.next_spells.1 in record {
      first = f.thing;
      second = i.thing;
      more = m.thing;
      is = close.next_spells.1 ∙ ap (λ r. f.thing ∷ r) made;
      group = (
        refl,
        record {
          front = h.front;
          back = h.back;
          thing = h.thing;
          split = h.split;
          first_spells = h.first_spells;
          next_spells = record {
            front = f.front ++ (c.front ++ l.front);
            back = l.back;
            thing = f.thing ∷ i.thing ∷ m.thing;
            split = f.split ∙ ap (λ t. f.front ++ t) (c.split ∙ ap (λ t. c.front ++ t) l.split
                ∙ sym (append_assoc c.front l.front l.back)) ∙ sym (append_assoc f.front (c.front ++ l.front) l.back);
            first_spells = inr (record {
              front = f.front;
              back = c.front ++ l.front;
              thing = f.thing;
              split = refl;
              first_spells = f.first_spells;
              next_spells = record {
                front = c.front ++ l.front;
                back = [];
                thing = i.thing ∷ m.thing;
                split = sym (append-nil (c.front ++ l.front));
                first_spells = record {
                  front = c.front ++ i.front;
                  back = m.front;
                  split = ap (λ t. c.front ++ t) (i.split ∙ ap (λ t. i.front ++ t) (m.split ∙ ap (λ t. m.front ++ t)
                      m.next_spells.0 ∙ append-nil m.front)) ∙ sym (append_assoc c.front i.front m.front);
                  first = record {
                    front = c.front;
                    back = i.front;
                    thing = c.thing;
                    split = refl;
                    first_spells = c.first_spells;
                    next_spells = i.first_spells;
                  };
                  second = m.first_spells;
                };
                next_spells = (refl, refl);
              };
            });
            next_spells = record {
              front = close.front;
              back = close.back;
              thing = close.thing;
              split = close.split;
              first_spells = close.first_spells;
              next_spells = (close.next_spells.0, refl);
            };
          };
        },
      );
    }
