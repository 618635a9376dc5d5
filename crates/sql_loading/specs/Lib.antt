pub mod DomainChanged
