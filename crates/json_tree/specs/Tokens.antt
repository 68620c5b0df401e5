-- For private clauses: the tokens that are written for a value.
use Rattle.std.specs.Prelude.{List, [], ◌∷◌, ◌++◌}
use Rattle.std.specs.Fmt.{signed_decimal}
use Rattle.json.specs.Token.{Token, begin_object, end_object, begin_array, end_array, key, string, number, boolean as bool_token, null as null_token}
use Rattle.json_tree.specs.Data.{Data, null, boolean, whole, text, list, fields, Items, no_items, item, Members, no_members, member}

abbrev mutual
  pub tokens_of : Data → List Token
  tokens_of null = null_token ∷ []
  tokens_of (boolean b) = bool_token b ∷ []
  tokens_of (whole z) = number (signed_decimal z) ∷ []
  tokens_of (text s) = string s ∷ []
  tokens_of (list ds) = begin_array ∷ items_tokens ds
  tokens_of (fields ms) = begin_object ∷ members_tokens ms

  -- with the closing bracket
  pub items_tokens : Items → List Token
  items_tokens no_items = end_array ∷ []
  items_tokens (item d ds) = tokens_of d ++ items_tokens ds

  pub members_tokens : Members → List Token
  members_tokens no_members = end_object ∷ []
  members_tokens (member k d ms) = key k ∷ (tokens_of d ++ members_tokens ms)
