-- Contents by their parts: a function that reads one word takes the parts, and lends the body.
use Rattle.std.specs.Prelude.{ℕ, List}
use Rattle.base_ids.specs.declared.Node.{Node}
use Rattle.base_ids.specs.declared.View.{View}
use Rattle.message_format.specs.declared.Contents.{Contents}

abbrev pub contents_with : Node → View → ℕ → ℕ → List ℕ → Contents
contents_with node view members len body =
    record {
      node = node;
      view = view;
      members = members;
      len = len;
      body = body;
    }
