-- The call that each search is.
use Rattle.steps.specs.Calls.{Call, naked_singles_call, hidden_singles_call, advanced_call}
use Rattle.techniques.specs.declared.Search.{Search}
use Rattle.techniques.specs.declared.Search.TheVariants as search

abbrev pub search_call : Search → Call
search_call search.Naked = naked_singles_call
search_call search.Hidden = hidden_singles_call
search_call search.Advanced = advanced_call
