-- The readers of fields, members and classes take whatever the grammar spells.
use Rattle.std.proofs.Common.{◌≡◌, ℕ, ◌||◌, inl, inr, Bool, true, false, List, [], ◌∷◌, ◌++◌, Option, Some, None, Ok}
use Rattle.std.proofs.Common.{refl, ap, ◌∙◌, append_assoc, codes}
use Rattle.vb_value.specs.declared.token.Keyword.{Keyword}
use Rattle.vb_value.specs.declared.token.Keyword.TheVariants as k
use Rattle.vb_value.specs.declared.token.Symbol.TheVariants as s
use Rattle.vb_value.specs.declared.token.Token.{Token}
use Rattle.vb_value.specs.declared.token.TokenKind.{TokenKind}
use Rattle.vb_value.specs.declared.token.TokenKind.TheVariants as kind
use Rattle.vb_syntax.specs.declared.declaration.Access.{Access}
use Rattle.vb_syntax.specs.declared.declaration.Access.TheVariants as access
use Rattle.vb_syntax.specs.declared.unit.ClassMember.{ClassMember}
use Rattle.vb_syntax.specs.declared.unit.ClassMember.TheVariants as member
use Rattle.vb_syntax.specs.declared.unit.FieldAccess.{FieldAccess}
use Rattle.vb_syntax.specs.declared.unit.FieldAccess.TheVariants as field
use Rattle.vb_syntax.specs.grammar.Rules.{Tokens, Rule}
use Rattle.vb_syntax.specs.grammar.Rules as rule
use Rattle.vb_syntax.specs.grammar.Words as words
use Rattle.vb_syntax.specs.grammar.Words.{tag, name_of, name_of_kind}
use Rattle.vb_syntax.specs.grammar.Declarations as declarations
use Rattle.vb_syntax.specs.grammar.SimpleStatements as simple
use Rattle.vb_syntax.specs.grammar.SimpleStatements.{Looser, quoted_at, line_of_quoted}
use Rattle.vb_syntax.specs.grammar.Units as grammar
use Rattle.vb_read.specs.Reader.{Reader, Look, next, passes, is_some, one_by, asks}
use Rattle.vb_read.specs.Reader as reader
use Rattle.vb_read.specs.ReadDeclarations.{access_word as access_reader}
use Rattle.vb_read.specs.ReadSimpleStatements.{sees_quoted}
use Rattle.vb_read.specs.ReadUnits as spec
use Rattle.vb_read.proofs.Taking.{Follow, Any, Takes, Starts, takes_pure}
use Rattle.vb_read.proofs.Beginning.{HeadIn}
use Rattle.vb_read.proofs.Binding.{Within, within_then, bind_wider, first_wider, bind_left, bind_right, pure_in}
use Rattle.vb_read.proofs.Binding.{pure_out, or_out, or_within}
use Rattle.vb_read.proofs.ProcedureReading.{either_open, property_open}
use Rattle.vb_read.proofs.CallReading.{or_both}
use Rattle.vb_read.proofs.UnitReading.{fields_rest, fields_of}
use Rattle.vb_read.proofs.Tags.{among}
use Rattle.vb_read.proofs.Following.{Before, BeginsIn, Leads, leads_begins, leads_bind, leads_many, leads_or}
use Rattle.vb_read.proofs.Following.{leads_pure, begins_then, begins_either, begins_more, begins_within}
use Rattle.vb_read.proofs.Following.{begins_word_then, name_begins, Asks, asks_no, starts, skips}
use Rattle.vb_read.proofs.Choosing.{takes_on, takes_off, takes_or, takes_within, takes_word, takes_then, takes_map}
use Rattle.vb_read.proofs.Choosing.{takes_more, takes_each, Chosen, chosen, choose, choose_by, comma}
use Rattle.vb_read.proofs.Placing.{takes_opened, begins_opened}
use Rattle.vb_read.proofs.DeclarationTaking.{access_heads, asks_access, begins_access, takes_access_word}
use Rattle.vb_read.proofs.DeclarationTaking.{takes_declared, takes_declared_from, opening, begins_bounds}
use Rattle.vb_read.proofs.Following.{name_head}
use Rattle.vb_read.proofs.SimpleTaking.{quoted_begins}
use Rattle.vb_read.proofs.EndTaking.{break_heads, takes_end, begins_end, skips_quoted, takes_texts}
use Rattle.vb_read.proofs.BlankTexts.{text_head}
use Rattle.vb_read.proofs.EndTaking.{leads_texts}
use Rattle.vb_read.proofs.ProcedureTaking.{asks_procedure, begins_procedure, takes_procedure, procedure_apart}
use Rattle.vb_read.proofs.ProcedureTaking.{asks_property, begins_property, takes_property_from, property_word}
use Rattle.vb_read.proofs.ProcedureTaking.{property_apart, takes_property_alone}

-- ---- fields

-- the name of the first field, and what stands behind it
pub fields_named : (depth : ℕ) (first : ℕ × FieldAccess) → Within (fields_of depth first)
    (rule.◌>>=◌ (rule.one name_of) (λ name. fields_rest depth first.0 first.1 name))
fields_named depth first = within_then bind_right (within_then (bind_wider (λ one. within_then bind_right (bind_wider
    (λ more. pure_out)))) bind_right)

module _ (looser : Looser) where
  -- the word before fields
  fields_apart : (depth : ℕ) → Within (grammar.fields looser depth)
      (rule.◌or◌ (rule.◌>>=◌ declarations.access_word (λ before. fields_of depth
      (before.0, spec.field_access before.1)))
      (rule.◌>>=◌ (words.keyword k.Dim) (λ line. fields_of depth (line, field.Dim))))
  fields_apart depth = within_then or_out (or_within
      (within_then bind_right (within_then (bind_wider (λ line. pure_out)) (λ _ _ h. inr h)))
      (within_then or_out (or_within
      (within_then (access_by k.Public access.Public) (λ _ _ h. inl (first_wider (λ _ _ w. inl w) _ _ h)))
      (within_then (access_by k.Private access.Private) (λ _ _ h. inl (first_wider (λ _ _ w. inr w) _ _ h))))))
    where
      access_by : (word : Keyword) (found : Access) → Within (rule.◌>>=◌ {A = ℕ × FieldAccess} (rule.◌>>=◌
          (words.keyword
          word) (λ line. rule.pure (line, spec.field_access found))) (fields_of depth)) (rule.◌>>=◌ {A = ℕ × Access}
          (rule.◌>>=◌ (words.keyword word) (λ line. rule.pure (line, found)))
          (λ before. fields_of depth (before.0, spec.field_access before.1)))
      access_by word found = within_then bind_right (within_then (bind_wider (λ line. within_then pure_out
          (pure_in {y = (line, found)}))) bind_left)

-- what stands behind the name of a field
abbrev pub field_ends : List ℕ
field_ends = comma ∷ break_heads

leads_more : (depth line : ℕ) (access : FieldAccess) (name : List ℕ)
    → Leads (field_ends ++ opening) (fields_rest depth line access name) (Before break_heads)
leads_more depth line access name = leads_bind (leads_bind {m = field_ends} (leads_or leads_pure (leads_begins
    (begins_then
    (begins_bounds depth)))) (λ found. leads_pure))
    (λ first. leads_bind (leads_many (begins_word_then (kind.Symbol s.Comma))) (λ more. leads_pure))

takes_fields_from : (depth line : ℕ) (access : FieldAccess) (name : List ℕ)
    → Takes (spec.fields_from depth line access name) (fields_rest depth line access name) (Before break_heads)
takes_fields_from depth line access name = takes_then {l = field_ends} (takes_declared_from depth name refl)
    (λ first. takes_map _ (takes_more (takes_declared depth refl) refl))
    (λ first. leads_bind (leads_many (begins_word_then (kind.Symbol s.Comma))) (λ more. leads_pure))

-- ---- the word "Property" behind an access

-- a quoted word is a name
quoted_is_name : (text : List ℕ) (token : Token) (line : ℕ) → quoted_at text token ≡ Some line
    → (name : List ℕ) × (name_of token ≡ Some name)
quoted_is_name text token line e = go token.kind e
  where
    go : (kind : TokenKind) → line_of_quoted text kind token.line ≡ Some line
        → (name : List ℕ) × (name_of_kind kind ≡ Some name)
    go (kind.Name name bracketed) e = (name, refl)
    go (kind.Keyword keyword) e = absurd cc
    go (kind.Symbol symbol) e = absurd cc
    go _ e = absurd cc

abbrev property_text : List ℕ
property_text = codes "property"

module _ (looser : Looser) (depth : ℕ) (before : ℕ × Access) where
  abbrev named_fields : List ℕ → Rule ClassMember
  named_fields name = fields_rest depth before.0 (spec.field_access before.1) name

  abbrev property_member : Rule ClassMember
  property_member = rule.◌>>=◌ (property_open looser depth (before.0, Some before.1)) (λ found. rule.pure
      (member.Property
      found))

  takes_fields_behind : (name : List ℕ) → Takes (spec.behind_property looser depth before name) (named_fields name)
      (Before break_heads)
  takes_fields_behind name = takes_off spec.sees_property_kind _ (skips (asks_property looser)
      (leads_more depth before.0
      (spec.field_access before.1) name) refl) (takes_fields_from depth before.0 (spec.field_access before.1) name)

  takes_kind_behind : (name : List ℕ) {v : Follow} → Takes (spec.behind_property looser depth before name)
      property_member v
  takes_kind_behind name = takes_on spec.sees_property_kind _ (starts (asks_property looser) (begins_then
      (begins_property
      looser depth (before.0, Some before.1))) refl) (takes_map _ (takes_property_from looser depth (
        before.0,
        Some
            before.1,
      )))

  -- what stands behind an access, but for a procedure
  abbrev name_behind : Reader ClassMember
  name_behind = reader.case (sees_quoted property_text)
      (reader.◌>>=◌ (reader.one (spec.quoted_name property_text)) (spec.behind_property looser depth before))
      (reader.◌>>=◌ (reader.one name_of) (λ name. spec.fields_from depth before.0 (spec.field_access before.1) name))

  takes_named : Takes name_behind (rule.◌>>=◌ (rule.one name_of) named_fields) (Before break_heads)
  takes_named = record {
    takes = λ front rest x h ok. ap name_behind (ap (λ t. t ++ rest) (h.split ∙ ap
        (λ t. t ++ h.back) h.first_spells.alone))
        ∙ go h.first_spells.token h.thing h.back rest x (quoted_at property_text h.first_spells.token) refl
        h.first_spells.passes h.next_spells ok;
  }
    where
      go : (token : Token) (name : List ℕ) (back rest : Tokens) (x : ClassMember) (o : Option ℕ)
          → quoted_at property_text token ≡ o → name_of token ≡ Some name → named_fields name back x
          → Before break_heads rest → name_behind (token ∷ (back ++ rest)) ≡ Ok (x, rest)
      go token name back rest x None is named h ok = rw (is, named) ((takes_fields_from depth before.0
          (spec.field_access
          before.1) name).takes back rest x h ok)
      go token name back rest x (Some line) is named h ok = rw (is, named) ((takes_fields_behind name).takes back rest
          x h ok)

  takes_property : {v : Follow} → Takes name_behind (rule.◌>>=◌ (simple.quoted property_text)
      (λ line. property_member)) v
  takes_property {v} = record {
    takes = λ front rest x h ok. ap name_behind (ap (λ t. t ++ rest) (h.split ∙ ap
        (λ t. t ++ h.back) h.first_spells.alone))
        ∙ go h.first_spells.token h.thing h.back rest x h.first_spells.passes (quoted_is_name property_text
        h.first_spells.token h.thing h.first_spells.passes) h.next_spells;
  }
    where
      go : (token : Token) (line : ℕ) (back rest : Tokens) (x : ClassMember) → quoted_at property_text token ≡ Some line
          → (name : List ℕ) × (name_of token ≡ Some name) → property_member back x
          → name_behind (token ∷ (back ++ rest)) ≡ Ok (x, rest)
      go token line back rest x is named h = rw (is, named.1) ((takes_kind_behind named.0
          {v = Any}).takes back rest x h tt)

  -- ---- members behind an access

  abbrev method_behind : Rule ClassMember
  method_behind = rule.◌>>=◌ (either_open looser depth (Some before)) (λ found. rule.pure (member.Method found))

  abbrev names_behind : Rule ClassMember
  names_behind = rule.◌or◌ (rule.◌>>=◌ (property_word looser depth (Some before)) (λ found. rule.pure (member.Property
      found))) (rule.◌>>=◌ (rule.one name_of) named_fields)

  abbrev pub member_behind : Rule ClassMember
  member_behind = rule.◌or◌ method_behind names_behind

  begins_names : BeginsIn name_head names_behind
  begins_names = begins_more {m = name_head} refl (begins_either (begins_then (begins_then
      (quoted_begins property_text)))
      (begins_then name_begins))

  pub takes_member_behind : Takes (spec.behind_access looser depth before) member_behind (Before break_heads)
  takes_member_behind = takes_or
      (takes_on spec.sees_procedure _ (starts (asks_procedure looser) (begins_then (begins_procedure looser depth (Some
      before))) refl) (takes_map _ (takes_procedure looser depth (Some before))))
      (takes_off spec.sees_procedure _ (skips (asks_procedure looser) (leads_begins begins_names) refl)
      (takes_or (takes_within bind_right takes_property) takes_named))

  abbrev pub behind_heads : List ℕ
  behind_heads = tag (kind.Keyword k.Sub) ∷ tag (kind.Keyword k.Function) ∷ name_head

  pub begins_member_behind : BeginsIn behind_heads member_behind
  begins_member_behind = begins_more refl (begins_either (begins_then (begins_procedure looser depth (Some before)))
      begins_names)

-- ---- members of a class

-- the numbers of the keywords that begin a member
abbrev pub member_words : List ℕ
member_words = access_heads ++ (tag (kind.Keyword k.Dim) ∷ tag (kind.Keyword k.Sub) ∷ tag
    (kind.Keyword k.Function) ∷ [])

member_tag : (kind : TokenKind) → spec.kind_begins_member kind ≡ among member_words (tag kind)
member_tag (kind.Keyword k.And) = refl
member_tag (kind.Keyword _) = refl
member_tag (kind.Symbol s.Open) = refl
member_tag (kind.Symbol _) = refl
member_tag _ = refl

asks_member_word : Asks (asks spec.kind_begins_member) member_words
asks_member_word = record { none = refl; some = λ token. member_tag token.kind }

or_on : (a b : Bool) → a ≡ true → (a || b) ≡ true
or_on a b e = rw e refl

or_second : (a b : Bool) → b ≡ true → (a || b) ≡ true
or_second true b e = refl
or_second false b e = e

abbrev end_word : List ℕ
end_word = tag (kind.Keyword k.End) ∷ []

-- what begins no member behind them
no_member : (rest : Tokens) → Before end_word rest → spec.begins_member (next rest) ≡ false
no_member rest ok = or_both _ _ (asks_no asks_member_word refl rest ok) (skips_quoted property_text {l = end_word}
    {r = rule.pure {A = ℕ} 0} leads_pure refl [] rest 0 (refl, refl) ok)

module _ (looser : Looser) (depth : ℕ) where
  abbrev dim_member : Rule ClassMember
  dim_member = rule.◌>>=◌ (words.keyword k.Dim) (λ line. rule.◌>>=◌ (rule.one name_of) (λ name. fields_rest depth line
      field.Dim name))

  abbrev method_member : Rule ClassMember
  method_member = rule.◌>>=◌ (either_open looser depth None) (λ found. rule.pure (member.Method found))

  abbrev alone_member : Rule ClassMember
  alone_member = rule.◌>>=◌ (property_word looser depth None) (λ found. rule.pure (member.Property found))

  -- the members in the order in which the reader asks for them
  abbrev asked : Rule ClassMember
  asked = rule.◌or◌ (rule.◌>>=◌ declarations.access_word (member_behind looser depth))
      (rule.◌or◌ dim_member (rule.◌or◌ method_member alone_member))

  member_asked : Within (grammar.class_member looser depth) asked
  member_asked = or_within
      (within_then (fields_apart looser depth) (or_within
      (within_then (bind_wider (λ before. within_then (fields_named depth (before.0, spec.field_access before.1))
      (λ _ _ h. inr (inr h)))) (λ _ _ h. inl h))
      (within_then (bind_wider (λ line. fields_named depth (line, field.Dim))) (λ _ _ h. inr (inl h)))))
      (or_within
      (within_then (first_wider (procedure_apart looser depth)) (within_then or_out (or_within
      (within_then bind_right (within_then (bind_wider (λ before _ _ h. inl h)) (λ _ _ h. inl h)))
      (λ _ _ h. inr (inr (inl h))))))
      (within_then (first_wider (property_apart looser depth)) (within_then or_out (or_within
      (within_then bind_right (within_then (bind_wider (λ before _ _ h. inr (inl h))) (λ _ _ h. inl h)))
      (λ _ _ h. inr (inr (inr h)))))))

  takes_behind_access : Takes (reader.◌>>=◌ access_reader (spec.behind_access looser depth))
      (rule.◌>>=◌ declarations.access_word (member_behind looser depth)) (Before break_heads)
  takes_behind_access = takes_then {l = tag (kind.Keyword k.Sub) ∷ tag (kind.Keyword k.Function) ∷ name_head}
      takes_access_word (takes_member_behind looser depth)
      (λ before. leads_begins (begins_member_behind looser depth before))

  takes_dim : Takes (spec.dim_fields depth) dim_member (Before break_heads)
  takes_dim = takes_word (λ line. takes_word (λ name. takes_fields_from depth line field.Dim name))

  chosen_member : Chosen (spec.class_member looser depth) (access_heads ++ (tag (kind.Keyword k.Dim)
      ∷ (tag (kind.Keyword k.Sub) ∷ tag (kind.Keyword k.Function) ∷ name_head))) asked (Before break_heads)
  chosen_member = choose_by asks_access (begins_then begins_access) refl takes_behind_access
      (choose (kind.Keyword k.Dim) takes_dim
      (choose_by (asks_procedure looser) (begins_then (begins_procedure looser depth None)) refl
      (takes_map _ (takes_procedure looser depth None))
      (chosen (takes_map _ (takes_property_alone looser depth)) (begins_then (begins_then
      (quoted_begins property_text))))
      refl) refl) refl

-- the numbers of the tokens that begin a member
abbrev pub member_heads : List ℕ
member_heads = access_heads ++ (tag (kind.Keyword k.Dim) ∷ (tag (kind.Keyword k.Sub) ∷ tag (kind.Keyword k.Function)
    ∷ name_head))

-- what may stand behind a member and its end
abbrev member_ends : List ℕ
member_ends = member_heads ++ end_word

module _ (looser : Looser) (depth : ℕ) where
  begins_member : BeginsIn member_heads (grammar.class_member looser depth)
  begins_member = begins_within (member_asked looser depth) (chosen_member looser depth).begins

  takes_member_line : Takes (spec.member_line looser depth) (grammar.member_line looser depth) (Before member_ends)
  takes_member_line = takes_then {l = break_heads} (takes_within (member_asked looser depth) (chosen_member looser
      depth).takes)
      (λ found. takes_then {l = text_head ++ member_ends} (takes_end refl)
      (λ _. takes_then {l = member_ends} (takes_texts looser.texts refl refl) (λ _. takes_pure found _) (λ _. leads_pure))
      (λ _. leads_bind {m = member_ends} (leads_texts looser.texts) (λ _. leads_pure)))
      (λ found. leads_begins (begins_then begins_end))

  starts_member : Starts spec.begins_member (grammar.member_line looser depth)
  starts_member front rest x h = rw (h.split, append_assoc h.front h.back rest) (go
      (member_asked looser depth h.front h.thing
      h.first_spells) (h.back ++ rest))
    where
      plain : (front rest : Tokens) → HeadIn (among member_words) front → spec.begins_member (next
          (front ++ rest)) ≡ true
      plain front rest w = rw w.2 (or_on _ _ (member_tag w.0.kind ∙ w.3))

      quoted : (front rest : Tokens) (y : ClassMember) → alone_member looser depth front y
          → spec.begins_member (next (front ++ rest)) ≡ true
      quoted front rest y w = let first = w.first_spells.first_spells in
          rw (w.split, w.first_spells.split, first.alone) (or_second _ _ (ap is_some first.passes))

      go : asked looser depth h.front h.thing → (rest : Tokens) → spec.begins_member (next (h.front ++ rest)) ≡ true
      go (inl w) rest = plain h.front rest ((begins_more {m = member_words} refl
          (begins_then begins_access)).head h.front
          h.thing w)
      go (inr (inl w)) rest = plain h.front rest ((begins_more {m = member_words} refl (begins_word_then (kind.Keyword
          k.Dim))).head h.front h.thing w)
      go (inr (inr (inl w))) rest = plain h.front rest ((begins_more {m = member_words} refl (begins_then
          (begins_procedure
          looser depth None))).head h.front h.thing w)
      go (inr (inr (inr w))) rest = quoted h.front rest h.thing w

  takes_members : Takes (spec.members looser depth) (rule.many (grammar.member_line looser depth)) (Before end_word)
  takes_members = takes_each spec.begins_member (begins_then begins_member) starts_member no_member takes_member_line

-- ---- classes

pub takes_class : (looser : Looser) (depth : ℕ) {v : Follow} → Takes (spec.class looser depth)
    (grammar.class looser depth) v
takes_class looser depth {v} = takes_opened depth (λ within. takes_word (λ line. takes_word (λ name.
    takes_then {l = text_head ++ member_ends} (takes_end refl)
    (λ _. takes_then {l = member_ends} (takes_texts looser.texts refl refl)
    (λ _. takes_then {l = end_word} (takes_members looser within) (λ found. takes_word (λ _. takes_word
    (λ _. takes_pure _ v)))
    (λ found. leads_begins (begins_word_then (kind.Keyword k.End))))
    (λ _. leads_members within))
    (λ _. leads_bind {m = member_ends} (leads_texts looser.texts) (λ _. leads_members within)))))
  where
    leads_members : (within : ℕ) {B : Type 0} {w : Follow} {f : List ClassMember → Rule B} → Leads member_ends
        (rule.◌>>=◌ (rule.many (grammar.member_line looser within)) (λ found. rule.◌>>◌ (words.keyword k.End)
        (f found))) w
    leads_members within = leads_bind (leads_many {l = end_word} (begins_then (begins_member looser within)))
        (λ found. leads_begins (begins_word_then (kind.Keyword k.End)))

pub begins_class : (looser : Looser) (depth : ℕ) → BeginsIn (tag (kind.Keyword k.Class) ∷ [])
    (grammar.class looser depth)
begins_class looser depth = begins_opened depth (λ within. begins_word_then (kind.Keyword k.Class))
