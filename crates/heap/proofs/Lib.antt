mod Units
