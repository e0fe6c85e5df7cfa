mod LiteralLemmas
mod FormSteps
mod DeclaringSteps
mod CallSteps
mod TokensRead
mod SomeOutline
mod BracePartners
